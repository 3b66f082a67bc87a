-- What is seen is put after what opens its group.
use Rattle.figures.specs.Figures.{number_text}
use Rattle.text.proofs.Writes.{write-group}
use Rattle.elements.specs.Visibility.{show_visibility}
use Rattle.wind.proofs.write.put_visibility.Goals as goal

pub returns-in-Missing : goal.returns-in-Missing
unfolding show_visibility
returns-in-Missing c = rw c.in-Missing.is (write-group c.open_group-opened.ensures c.put_text.ensures)

pub returns-in-Cavok : goal.returns-in-Cavok
unfolding show_visibility
returns-in-Cavok c = rw c.in-Cavok.is (write-group c.open_group-opened.ensures c.put_text-in-Cavok.ensures)

pub returns-in-Metres : goal.returns-in-Metres
unfolding show_visibility number_text
returns-in-Metres c =
    rw c.in-Metres.is (write-group c.open_group-opened.ensures (rw c.view_figure.ensures at c.put_number.ensures))
