-- The numbers that the loops over an image's records mark, by its sizes z and the bodies l of its records.
use Rattle.std.specs.Prelude.{Bool, false, cond, List, [], ◌∷◌, map, ℕ, suc, get_or, drop}
use Rattle.logic.specs.Obligations.{flat}
use Rattle.image_header.specs.declared.sizes.Sizes.{Sizes}
use Rattle.image_header.specs.Thread.{instructions}
use Rattle.image_bodies.specs.Line.{premises}
use Rattle.image_meaning.specs.Certificate.{left, right, line_body}
use Rattle.trim_spec.specs.Parse.{document_of}
use Rattle.trim_spec.specs.Live.{marked_by, chosen, instruction_formulas, line_formulas}

-- the formulas that the instructions of a thread's body name, from point p on
unfoldable pub body_formulas : List ℕ → ℕ → List ℕ
body_formulas b p = flat instruction_formulas (drop p (instructions b))

-- the formulas that a line's body names
unfoldable pub sides_of : List ℕ → List ℕ
sides_of b = left b ∷ right b ∷ []

module _ (z : Sizes) (l : List (List ℕ)) where
  -- the lines that claims name
  unfoldable pub claim_lines : List ℕ
  claim_lines = map (λ c. c.line) (document_of z l).claims

  -- the marks m, with those of line n's premises if line n is marked
  unfoldable pub with_premises : ℕ → List Bool → List Bool
  with_premises n m = cond (get_or m n false) (marked_by m (premises (line_body z l n))) m

  -- the formulas that the threads after thread t name
  unfoldable pub thread_formulas : ℕ → List ℕ
  thread_formulas t = flat (λ i. flat instruction_formulas i) (drop t (document_of z l).threads)

  -- the formulas that line n names, if k marks it
  unfoldable pub marked_sides : List Bool → ℕ → List ℕ
  marked_sides k n = cond (get_or k n false) (sides_of (line_body z l n)) []

  -- the formulas that the lines after line n name, of those that k marks
  unfoldable pub marked_formulas : List Bool → ℕ → List ℕ
  marked_formulas k n = flat line_formulas (chosen (drop (suc n) k) (drop n (document_of z l).lines))
