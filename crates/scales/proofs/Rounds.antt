-- What holds of any figure that rounds a value, once: written figures read back as the rounded value, each used figure is the one written for its
-- own reading, and an unused figure is written for no value.
-- Assumes nothing.

-- Writes v f: v is written as f. Reads f v: f is read as v. Unused f: f has no reading. rounded v: what v is read as.
pub record Rounds {A F : Type 0} (Writes : A → F → Type 0) (Reads : F → A → Type 0) (Unused : F → Type 0) (rounded : A → A) : Type 0 where
  pub back : (v : A) (f : F) → Writes v f → Reads f (rounded v)
  pub own : (f : F) (v : A) → Reads f v → Writes v f
  -- so writing the reading gives the same figure
  pub again : (v : A) (f : F) → Writes v f → Writes (rounded v) f
  pub unused : (f : F) → Unused f → (v : A) → Writes v f → ⊥

pub rounds : {A F : Type 0} {Writes : A → F → Type 0} {Reads : F → A → Type 0} {Unused : F → Type 0} {rounded : A → A}
    → ((v : A) (f : F) → Writes v f → Reads f (rounded v)) → ((f : F) (v : A) → Reads f v → Writes v f)
    → ((f : F) (v : A) → Unused f → Reads f v → ⊥) → Rounds Writes Reads Unused rounded
rounds {rounded = rounded} back own none =
    record {
      back = back;
      own = own;
      again = λ v f w. own f (rounded v) (back v f w);
      unused = λ f u v w. none f (rounded v) u (back v f w);
    }
