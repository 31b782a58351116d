-- Prospects: their parts, and what holds of each view.
use mathlib.Core.Path.{◌≡◌}
use mathlib.Core.List.{List, [], ◌∷◌}
use mathlib.Core.Logic.{◌⊎◌, inl, inr}
use Prim.Native.Nat.{ℕ, zero, suc, ◌≤◌, ◌<◌}
use native.Mathlib.Omega.{arith}
use lib.ListN.{take, drop}
use Rattle.semantics.proofs.Base.{is_within}
use Rattle.semantics.proofs.Invariant.{Wf}
use Rattle.semantics.specs.Base.{All, Within}
use Rattle.semantics.specs.Machine.{View, State, Program}
use Rattle.semantics.specs.Truth.{From, Names, Prospect}

module _ (size : ℕ → ℕ) where
  pub from_take : (a : View) (k : ℕ) (l : List View) → From size a l → From size a (take k l)
  from_take a zero l h = tt
  from_take a (suc k) [] h = tt
  from_take a (suc k) (v ∷ l) h = (h.0, h.1, from_take v k l h.2)

  pub from_drop : (a : View) (k : ℕ) (l : List View) → From size a l → From size a (drop k l)
  from_drop a zero l h = h
  from_drop a (suc k) [] h = tt
  from_drop a (suc k) (v ∷ l) h = below a v h.1 (drop k l) (from_drop v k l h.2)
    where
      below : (a b : View) → ((y : ℕ) → a y ≤ b y) → (l : List View) → From size b l → From size a l
      below a b f [] h = tt
      below a b f (w ∷ l) h = (h.0, λ y. omega (arith, f y, h.1 y), h.2)

  pub from_all : (a : View) (l : List View) → From size a l → All (λ w. Names size w × ((y : ℕ) → a y ≤ w y)) l
  from_all a [] h = tt
  from_all a (v ∷ l) h = ((h.0, h.1), go l (from_all v l h.2))
    where
      go : (l : List View) → All (λ w. Names size w × ((y : ℕ) → v y ≤ w y)) l → All (λ w. Names size w × ((y : ℕ) → a y ≤ w y)) l
      go [] g = tt
      go (w ∷ l) g = ((g.0.0, λ y. omega (arith, h.1 y, g.0.1 y)), go l g.1)

-- prospects over the program's words alone, 0 elsewhere
abbrev pub NamesIn : Program → State → View → Type 0
NamesIn P s v = ((x : ℕ) → Within P.words x → v x < s.size x) × ((x : ℕ) → (Within P.words x → ⊥) → v x ≡ 0)

abbrev pub FromIn : Program → State → View → List View → Type 0
FromIn P s v [] = Unit {0}
FromIn P s v (w ∷ l) = NamesIn P s w × ((x : ℕ) → Within P.words x → v x ≤ w x) × FromIn P s w l

abbrev pub ProspectIn : Program → State → View → List View → Type 0
ProspectIn P s v [] = ⊥
ProspectIn P s v (w ∷ l) = FromIn P s v (w ∷ l)

-- they are the prospects: quantifying over every number as a word says the same
module _ {P : Program} {s : State} (wf : Wf P s) where
  outside : (v : View) → Names s.size v → (y : ℕ) → (Within P.words y → ⊥) → v y ≡ 0
  outside v h y out = omega (arith, h y, wf.outer y out)

  words_from : (v : View) (l : List View) → From s.size v l → FromIn P s v l
  words_from v [] h = tt
  words_from v (w ∷ l) h = (((λ y k. h.0 y), outside w h.0), (λ y k. h.1 y), words_from w l h.2)

  from_words : (v : View) → Names s.size v → (l : List View) → FromIn P s v l → From s.size v l
  from_words v n [] h = tt
  from_words v n (w ∷ l) h = (names, below, from_words w names l h.2)
    where
      names : Names s.size w
      names y = go (is_within P.words y)
        where
          go : Within P.words y ⊎ (Within P.words y → ⊥) → w y < s.size y
          go (inl k) = h.0.0 y k
          go (inr k) = omega (arith, h.0.1 y k, wf.outer y k)

      below : (y : ℕ) → v y ≤ w y
      below y = go (is_within P.words y)
        where
          go : Within P.words y ⊎ (Within P.words y → ⊥) → v y ≤ w y
          go (inl k) = h.1 y k
          go (inr k) = omega (arith, outside v n y k)

  pub prospect_words : (t : ℕ) (l : List View) → (Prospect s.size (s.view t) l → ProspectIn P s (s.view t) l)
      × (ProspectIn P s (s.view t) l → Prospect s.size (s.view t) l)
  prospect_words t [] = ((λ h. h), (λ h. h))
  prospect_words t (v ∷ l) = (words_from (s.view t) (v ∷ l), from_words (s.view t) (wf.view_in t) (v ∷ l))
