-- Rules 57 and 58: a part of a list of which every view passes `false` is empty.
use mathlib.Core.Path.{◌≡◌, refl, ap}
use mathlib.Core.List.{List, [], ◌∷◌}
use Prim.Native.Nat.{ℕ, zero, suc}
use lib.ListN.{take, drop}
use Rattle.semantics.specs.Base.{All}
use Rattle.semantics.specs.Machine.{View}

pub none_behind : (k : ℕ) (l : List View) → All (λ v. ⊥) (drop k l) → take k l ≡ l
none_behind zero [] h = refl
none_behind zero (v ∷ l) h = absurd h.0
none_behind (suc k) [] h = refl
none_behind (suc k) (v ∷ l) h = ap (λ (z : List View). v ∷ z) (none_behind k l h)

pub none_before : (k : ℕ) (l : List View) → All (λ v. ⊥) (take k l) → drop k l ≡ l
none_before zero l h = refl
none_before (suc k) [] h = refl
none_before (suc k) (v ∷ l) h = absurd h.0
