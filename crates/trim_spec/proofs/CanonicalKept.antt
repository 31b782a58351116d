-- A trimmed document's numbers fit the bytes that it has for them, as those of the whole one do: no number grows.
use mathlib.Core.Path.{◌≡◌, ap, ◌∙◌}
use mathlib.Core.Bool.{Bool, true, false}
use mathlib.Core.List.{List, [], ◌∷◌, map}
use Prim.Native.Nat.{ℕ}
use native.Mathlib.Omega.{arith}
use lib.ListN.{drop, length-map}
use Rattle.image_header.specs.Instruction.{no_half}
use Rattle.image_header.specs.Thread.{nothing}
use Rattle.image_header.specs.declared.instruction.Half.{Half}
use Rattle.image_header.specs.declared.instruction.Instruction.{Instruction}
use Rattle.trim_spec.specs.Document.{Document, LineRecord, ClaimRecord}
use Rattle.trim_spec.specs.Canonical.{Short, Each, Bytes, Shorts, Canonical, no_line, no_claim}
use Rattle.trim_spec.specs.Canonical.{HalfFits, InstructionFits, ThreadFits, LineFits, ClaimFits}
use Rattle.trim_spec.proofs.EachMember.{each_nil, each_cons, each_tail, each_map}
use Rattle.trim_spec.specs.Live.{chosen, selected, renumbered}
use Rattle.trim_spec.specs.Trim.{half_by, instruction_by, line_by, claim_by, trimmed_by}
use Rattle.trim_spec.proofs.MarkCounts.{renumbered_0, renumbered_few}

-- what holds of each member holds of each that stays
module _ {A : Type 0} (F : A → Type 0) (d : A) where
  chosen_each : (m : List Bool) (l : List A) → Each F d l → Each F d (chosen m l)
  unfolding chosen
  chosen_each [] l h = each_nil F d
  chosen_each (b ∷ m) [] h = h
  chosen_each (true ∷ m) (x ∷ l) h = each_cons F d x (chosen m l) (h 0 (omega arith)) (chosen_each m l (each_tail F d x l h))
  chosen_each (false ∷ m) (x ∷ l) h = chosen_each m l (each_tail F d x l h)

  pub selected_each : (m : List Bool) (l : List A) → Each F d l → Each F d (selected m l)
  unfolding selected
  selected_each m l h = chosen_each (drop 1 m) l h

module _ (u k : List Bool) where
  abbrev f : ℕ → ℕ
  f = renumbered u

  abbrev g : ℕ → ℕ
  g = renumbered k

  short_kept : (m : List Bool) (n : ℕ) → Short n → Short (renumbered m n)
  short_kept m n h = omega (arith, renumbered_few m n)

  shorts_kept : (m : List Bool) (l : List ℕ) → Shorts l → Shorts (map (renumbered m) l)
  shorts_kept m l h = each_map Short 0 Short 0 (renumbered m) (short_kept m) l h

  -- where there is no second half there is none
  pub none_kept : half_by f g no_half ≡ no_half
  unfolding half_by
  none_kept = rw (renumbered_0 u)

  half-fits : (h : Half) → HalfFits h → HalfFits (half_by f g h)
  unfolding half_by
  half-fits h c = record { operation = c.operation; a = c.a; b = c.b; formula = short_kept u h.formula c.formula }

  instruction_fits : (i : Instruction) → InstructionFits i → InstructionFits (instruction_by f g i)
  unfolding instruction_by
  instruction_fits i c = record {
    operation = c.operation;
    a = c.a;
    b = c.b;
    formula = short_kept u i.formula c.formula;
    second = half-fits i.second c.second;
    single = λ e. ap (half_by f g) (c.single e) ∙ none_kept;
  }

  pub thread-fits : (l : List Instruction) → ThreadFits l → ThreadFits (map (instruction_by f g) l)
  thread-fits l c = record {
    points = rw (length-map l (instruction_by f g)) c.points;
    each = each_map InstructionFits nothing InstructionFits nothing (instruction_by f g) instruction_fits l c.each;
  }

  pub line-fits : (v : LineRecord) → LineFits v → LineFits (line_by f g v)
  unfolding line_by
  line-fits v c = record {
    rule = c.rule;
    thread = c.thread;
    point = c.point;
    left = short_kept u v.left c.left;
    right = short_kept u v.right c.right;
    count = rw (length-map v.premises g) c.count;
    premises = shorts_kept k v.premises c.premises;
  }

  pub claim_fits : (c : ClaimRecord) → ClaimFits c → ClaimFits (claim_by f g c)
  unfolding claim_by
  claim_fits c h = record {
    thread = h.thread;
    point = h.point;
    other = h.other;
    other_point = h.other_point;
    line = short_kept k c.line h.line;
  }

  lines_kept : (l : List LineRecord) → Each LineFits no_line l → Each LineFits no_line (map (line_by f g) (selected k l))
  lines_kept l c = each_map LineFits no_line LineFits no_line (line_by f g) line-fits (selected k l) (selected_each LineFits no_line k l c)

  pub canonical_kept : (D : Document) → Canonical D → Canonical (trimmed_by u k D)
  canonical_kept D c = record {
    header = c.header;
    formulas = selected_each Bytes [] u D.formulas c.formulas;
    threads = each_map ThreadFits [] ThreadFits [] (λ l. map (instruction_by f g) l) thread-fits D.threads c.threads;
    outline = shorts_kept u D.outline c.outline;
    lines = lines_kept D.lines c.lines;
    obligations = shorts_kept k D.obligations c.obligations;
    claims = each_map ClaimFits no_claim ClaimFits no_claim (claim_by f g) claim_fits D.claims c.claims;
  }
