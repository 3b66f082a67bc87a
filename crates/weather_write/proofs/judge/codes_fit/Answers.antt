-- By the text of its codes.
use Rattle.weather_write.proofs.Spelling.{spelt-within, spelt-length, spelt-codes}
use Rattle.weather_write.proofs.judge.codes_fit.Goals as goal

pub slice_bounds-letters-end : goal.slice_bounds-letters-end
slice_bounds-letters-end c = let a = c.args in spelt-within a.a a.b a.c c.put_code-first.ensures c.put_code-second.ensures c.put_code-third.ensures

pub slice_bounds-intensity_fits-end : goal.slice_bounds-intensity_fits-end
slice_bounds-intensity_fits-end c = let a = c.args in spelt-length a.a a.b a.c c.put_code-first.ensures c.put_code-second.ensures c.put_code-third.ensures

pub returns : goal.returns
returns c =
    let a = c.args in
    rw (← spelt-codes a.a a.b a.c c.put_code-first.ensures c.put_code-second.ensures c.put_code-third.ensures) c.intensity_fits.ensures
