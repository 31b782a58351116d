-- WHAT A CALLER OF `check_handover` MAY CONCLUDE, from its promise alone, in the order and the words of Change 12.
use mathlib.Core.Path.{◌≡◌, refl, sym, ◌∙◌, subst}
use mathlib.Core.List.{List}
use mathlib.Core.Logic.{◌⊎◌, inl, inr}
use Prim.Native.Nat.{ℕ, ◌*◌, ◌<◌}
use native.Mathlib.Omega.{arith}
use lib.ListN.{length}
use Rattle.semantics.specs.Base.{Within}
use Rattle.semantics.specs.Machine.{State, Start, Step}
use Rattle.semantics.specs.Truth.{True}
use Rattle.logic.specs.Statement.{implies}
use Rattle.logic_outline.specs.Lines.{Justified}
use Rattle.logic_outline.specs.Verdict.{Image}
use Rattle.image_meaning.specs.Image.{read, decode}
use Rattle.handover_spec.specs.Handover.{across, EveryRunAcross}
use Rattle.handover_spec.specs.Table.{points_to, new_point, new_line}
use Rattle.handover_spec.specs.Code.{handover_code}
use Rattle.handover_spec.specs.Promise.{BothAccepted, Fits, Serve, Decided, permitted, out_of_range, unserved, Promise}

read_same : (D E : Image) → read D ≡ read E → D ≡ E
read_same D E e = cc

-- what each code says, and which code there is
module _ (D E : Image) (table : List ℕ) where
  decided_0 : (c : ℕ) → Decided D E table c → c ≡ 0 → Fits D E table × Serve D E table
  decided_0 c (permitted f g) e = (f, g)
  decided_0 c (out_of_range h) e = absurd (omega arith)
  decided_0 c (unserved f h) e = absurd (omega arith)

  decided_33 : (c : ℕ) → Decided D E table c → c ≡ 33 → Fits D E table → ⊥
  decided_33 c (permitted f g) e = absurd (omega arith)
  decided_33 c (out_of_range h) e = h
  decided_33 c (unserved f h) e = absurd (omega arith)

  decided_34 : (c : ℕ) → Decided D E table c → c ≡ 34 → Fits D E table × (Serve D E table → ⊥)
  decided_34 c (permitted f g) e = absurd (omega arith)
  decided_34 c (out_of_range h) e = absurd (omega arith)
  decided_34 c (unserved f h) e = (f, h)

  three : (c : ℕ) → Decided D E table c → (c ≡ 0) ⊎ ((c ≡ 33) ⊎ (c ≡ 34))
  three c (permitted f g) = inl refl
  three c (out_of_range h) = inr (inl refl)
  three c (unserved f h) = inr (inr refl)

  served : (c : ℕ) → Decided D E table c → Fits D E table → Serve D E table → c ≡ 0
  served c (permitted f g) a b = refl
  served c (out_of_range h) a b = absurd (h a)
  served c (unserved f h) a b = absurd (h b)

module _ (old new table : List ℕ) (code : ℕ) (p : Promise old new table code) where
  -- the code is the one defined for these bytes
  pub code_defined : code ≡ handover_code old new table
  code_defined = p.returned

  -- "32 an image not accepted or the two unlike, first"
  pub not_both : ((D E : Image) → BothAccepted old new D E → ⊥) → code ≡ 32
  not_both = p.otherwise

  -- two accepted images with equal headers
  module _ (D E : Image) (both : BothAccepted old new D E) where
    pub one_of_three : (code ≡ 0) ⊎ ((code ≡ 33) ⊎ (code ≡ 34))
    one_of_three = three D E table code (p.decided D E both)

    -- "permit the handover if for each old point that line is a justified implication that concludes the new point's assertion from the
    -- old one"
    pub permitted_if : Fits D E table → Serve D E table → code ≡ 0
    permitted_if = served D E table code (p.decided D E both)

    -- "33 table too short, too long or anywhere out of range (line 0 too), before any 34"
    pub out_of_range_if : code ≡ 33 → Fits D E table → ⊥
    out_of_range_if = decided_33 D E table code (p.decided D E both)

    -- "34 a named line doesn't serve"
    pub unserved_if : code ≡ 34 → Fits D E table × (Serve D E table → ⊥)
    unserved_if = decided_34 D E table code (p.decided D E both)

    -- a permitted handover
    module _ (ok : code ≡ 0) where
      fits : Fits D E table
      fits = (decided_0 D E table code (p.decided D E both) ok).0

      -- an entry of three bytes for each old point
      pub table-size : length table ≡ 3 * points_to D.program D.program.threads
      table-size = fits.size

      module _ (t k : ℕ) (thread : Within D.program.threads t) (point : k < D.program.points t) where
        -- each new point is one of the same thread
        pub new_point_there : new_point D.program table t k < E.program.points t
        new_point_there = fits.points t k thread point

        -- each line is there, is not 0, is justified, and concludes the new point's assertion from the old one
        pub line_there : Within E.certificate.count (new_line D.program table t k)
        line_there = fits.lines t k thread point

        pub line_concludes : implies (D.outline t k) (E.outline t (new_point D.program table t k))
            ≡ (E.certificate.line (new_line D.program table t k)).says
        line_concludes = ((decided_0 D E table code (p.decided D E both) ok).1 t k thread point).says

        pub line_justified : Justified E.program E.certificate (new_line D.program table t k)
        line_justified = ((decided_0 D E table code (p.decided D E both) ok).1 t k thread point).just

  -- "Suppose both are accepted and the handover is permitted: all later states satisfy the new assertions, though the run began under the
  -- old code"
  module _ (ok : code ≡ 0) where
    pub both_read : ((D : Image) × (decode old ≡ read D)) × ((E : Image) × (decode new ≡ read E))
    both_read = let a = p.across ok in ((a.content, a.says), (a.following, a.follows))

    module _ (D E : Image) (old_says : decode old ≡ read D) (new_says : decode new ≡ read E) where
      every : EveryRunAcross D.program E.program E.outline (new_point D.program table)
      every =
          let a = p.across ok in
          subst (λ (X : Image). EveryRunAcross X.program E.program E.outline (new_point X.program table))
          (read_same a.content D (sym a.says ∙ old_says))
          (subst (λ (X : Image). EveryRunAcross a.content.program X.program X.outline (new_point a.content.program table))
          (read_same a.following E (sym a.follows ∙ new_says)) a.holds)

      -- l: steps under the old code, m: steps under the new code, refused ones among them
      pub later_states : (s : State) → Start D.program s → (l m : List Step) → (t : ℕ) → Within E.program.threads t
          → True E.program (across D.program E.program (new_point D.program table) s l m)
          (E.outline t ((across D.program E.program (new_point D.program table) s l m).point t))
      later_states = every.holds
