-- One fact on replacement, whatever the sort: a formula with its names replaced means what the formula means where the names stand for
-- those values.
use mathlib.Core.Path.{◌≡◌, refl, ap, ap₂, subst}
use mathlib.Core.Bool.{not, ◌&&◌, ◌||◌}
use mathlib.Core.List.{List}
use Prim.Native.Nat.{ℕ}
use lib.Dec.{T, eqb, ltb}
use lib.ListN.{take, drop}
use Rattle.semantics.proofs.Cuts.{All-map}
use Rattle.semantics.specs.Eval.{Env, value, test}
use Rattle.semantics.specs.Formula.{Sort, Formula, Formula.const, Formula.reg, Formula.word, Formula.sum, Formula.equal, Formula.less, Formula.and, Formula.or, Formula.unsync, Formula.cov, Formula.box, Formula.one, Formula.chop, Formula.both, Formula.either, Formula.sees, Formula.both_a, Formula.either_a, Formula.start, Formula.holds}
use Rattle.semantics.specs.Machine.{View, Program}
use Rattle.semantics.specs.Replace.{Sub, replace}
use Rattle.semantics.specs.Truth.{Sat}
use Rattle.semantics.proofs.Base.{map_or}
use Rattle.semantics.proofs.World.{World, Truth}

-- the names as the values that replace them
abbrev pub under : ℕ → Sub → Env → Env
under R σ ρ = record { reg = λ r. value R ρ (σ.reg r); word = λ x. value R ρ (σ.word x); unsync = ρ.unsync; cov = ρ.cov }

abbrev pub under_world : ℕ → Sub → World → World
under_world R σ w = record { state = w.state; at = λ v. under R σ (w.at v); held = under R σ w.held }

module _ (P : Program) (σ : Sub) where
  abbrev R : ℕ
  R = P.range

  abbrev pub Replaced : (s : Sort) → Formula s → Type 0
  Replaced Sort.value a = (ρ : Env) → value R ρ (replace σ a) ≡ value R (under R σ ρ) a
  Replaced Sort.test e = (ρ : Env) → test R ρ (replace σ e) ≡ test R (under R σ ρ) e
  Replaced Sort.interval i = (ρ : View → Env) (l : List View) → Sat R ρ (replace σ i) l → Sat R (λ v. under R σ (ρ v)) i l
  Replaced Sort.assertion a = (w : World) → Truth P w (replace σ a) → Truth P (under_world R σ w) a

  pub replaced : {s : Sort} (f : Formula s) → Replaced s f
  replaced (const n) = λ ρ. refl
  replaced (reg r) = λ ρ. refl
  replaced (word x) = λ ρ. refl
  replaced (sum a b) = λ ρ. rw (replaced a ρ, replaced b ρ)
  replaced Formula.false = λ ρ. refl
  replaced (equal a b) = λ ρ. ap₂ eqb (replaced a ρ) (replaced b ρ)
  replaced (less a b) = λ ρ. ap₂ ltb (replaced a ρ) (replaced b ρ)
  replaced (Formula.not e) = λ ρ. ap not (replaced e ρ)
  replaced (and e f) = λ ρ. ap₂ ◌&&◌ (replaced e ρ) (replaced f ρ)
  replaced (or e f) = λ ρ. ap₂ ◌||◌ (replaced e ρ) (replaced f ρ)
  replaced (unsync x) = λ ρ. refl
  replaced (cov x) = λ ρ. refl
  replaced (box e) = λ ρ l h. All-map _ _ (λ v k. subst T (replaced e (ρ v)) k) l h
  replaced (one x) = λ ρ l h. h
  replaced (chop i j) = λ ρ l h. (h.0, replaced i ρ (take h.0 l) h.1, replaced j ρ (drop h.0 l) h.2)
  replaced (both i j) = λ ρ l h. (replaced i ρ l h.0, replaced j ρ l h.1)
  replaced (either i j) = λ ρ l h. map_or (replaced i ρ l) (replaced j ρ l) h
  replaced (sees t i) = λ w h l pr. replaced i w.at l (h l pr)
  replaced (both_a a b) = λ w h. (replaced a w h.0, replaced b w h.1)
  replaced (either_a a b) = λ w h. map_or (replaced a w) (replaced b w) h
  replaced start = λ w h. h
  replaced (holds e) = λ w h. subst T (replaced e w.held) h
