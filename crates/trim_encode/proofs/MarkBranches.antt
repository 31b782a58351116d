-- Noting a list of numbers by a loop: what is left of the list is marked_by in the marks so far.
use mathlib.Core.Path.{◌≡◌, refl, ap, sym, ◌∙◌}
use mathlib.Core.Bool.{Bool, true, false}
use mathlib.Core.List.{List, [], ◌∷◌, ◌++◌}
use Prim.Native.Nat.{ℕ, ◌+◌, ◌≤◌, ◌<◌}
use native.Mathlib.Numerals.{add-one}
use lib.ListN.{length, get_or, set, drop, drop_of_length-le, get_or-eq_default}
use lib.Seq.{drop-cons, set_out}
use Rattle.logic.specs.Obligations.{flat}
use Rattle.limits.specs.Numbers.{numbers}
use Rattle.limits.proofs.Numbers.{numbers_length}
use Rattle.trim_spec.specs.Live.{marked_by}

pub noted_nil : (m : List Bool) → marked_by m [] ≡ m
unfolding marked_by
noted_nil m = refl

pub noted_cons : (m : List Bool) (n : ℕ) (l : List ℕ) → marked_by m (n ∷ l) ≡ marked_by (set m n true) l
unfolding marked_by
noted_cons m n l = refl

pub noted_append : (m : List Bool) (a b : List ℕ) → marked_by m (a ++ b) ≡ marked_by (marked_by m a) b
unfolding marked_by
noted_append m [] b = refl
noted_append m (n ∷ a) b = noted_append (set m n true) a b

pub noted_none : (m : List Bool) (n : ℕ) → length m ≤ n → false ≡ get_or m n false
noted_none m n h = sym (get_or-eq_default m false h)

pub note_past : (m : List Bool) (n : ℕ) → length m ≤ n → m ≡ set m n true
note_past m n h = sym (set_out m n true h)

-- THE ONE STEP: of all that is to be marked_by, a goes first
pub noting : (m after g : List Bool) (l a rest : List ℕ) → g ≡ marked_by m l → l ≡ a ++ rest → after ≡ marked_by m a → g ≡ marked_by after rest
noting m after g l a rest e d h = rw (e, d, noted_append m a rest, h)

-- one number, two numbers
pub note_one : (m after : List Bool) (n : ℕ) → after ≡ set m n true → after ≡ marked_by m (n ∷ [])
note_one m after n e = rw (noted_cons, noted_nil) e

pub note_two : (m between after : List Bool) (n k : ℕ) → between ≡ set m n true → after ≡ set between k true → after ≡ marked_by m (n ∷ k ∷ [])
note_two m between after n k e d = rw (noted_cons, noted_cons, noted_nil, ← e) d

-- three lists one after the other
pub note_three : (m₀ m₁ m₂ m₃ : List Bool) (a b c : List ℕ) → m₁ ≡ marked_by m₀ a → m₂ ≡ marked_by m₁ b → m₃ ≡ marked_by m₂ c
    → m₃ ≡ marked_by m₀ (a ++ (b ++ c))
note_three m₀ m₁ m₂ m₃ a b c e₁ e₂ e₃ = rw (noted_append m₀ a (b ++ c), ← e₁, noted_append m₁ b c, ← e₂) e₃

-- a loop over a list of numbers, of whose n members the ones from i on are left

pub note_start : (m : List Bool) (l : List ℕ) → marked_by m l ≡ marked_by m (drop 0 l)
note_start m l = refl

pub note_more : (l : List ℕ) (n i x : ℕ) (m after g : List Bool) → i < n → length l ≡ n → g ≡ marked_by m (drop i l) → x ≡ get_or l i 0
    → after ≡ set m x true
    → g ≡ marked_by after (drop (i + 1) l)
note_more l n i x m after g h len e d u =
    let b : i < length l = rw len h in
    noting m after g (drop i l) (x ∷ []) (drop (i + 1) l) e (rw (drop-cons l i 0 b, add-one i, d)) (note_one m after x u)

pub note_all : (l : List ℕ) (n i : ℕ) (m g : List Bool) → n ≤ i → length l ≡ n → g ≡ marked_by m (drop i l) → m ≡ g
note_all l n i m g h len e = let b : length l ≤ i = rw len h in sym (e ∙ ap (marked_by m) (drop_of_length-le l b) ∙ noted_nil m)

pub numbers_more : (b : List ℕ) (n i x : ℕ) (m₀ m after : List Bool) → i < n → marked_by m₀ (numbers n b) ≡ marked_by m (drop i (numbers n b))
    → x ≡ get_or (numbers n b) i 0
    → after ≡ set m x true → marked_by m₀ (numbers n b) ≡ marked_by after (drop (i + 1) (numbers n b))
numbers_more b n i x m₀ m after h e d u = note_more (numbers n b) n i x m after (marked_by m₀ (numbers n b)) h (numbers_length n b) e d u

pub numbers_all : (b : List ℕ) (n i : ℕ) (m₀ m : List Bool) → n ≤ i → marked_by m₀ (numbers n b) ≡ marked_by m (drop i (numbers n b))
    → m ≡ marked_by m₀ (numbers n b)
numbers_all b n i m₀ m h e = note_all (numbers n b) n i m (marked_by m₀ (numbers n b)) h (numbers_length n b) e

pub ruleset mark_numbers_branches = (note_start, numbers_more, numbers_all)

-- a loop over a list whose members name some numbers each

pub flat_more : {A : Type 0} (f : A → List ℕ) (l : List A) (d : A) (i : ℕ) (m after g : List Bool) → i < length l
    → g ≡ marked_by m (flat f (drop i l))
    → after ≡ marked_by m (f (get_or l i d)) → g ≡ marked_by after (flat f (drop (i + 1) l))
flat_more f l d i m after g h e u =
    noting m after g (flat f (drop i l)) (f (get_or l i d)) (flat f (drop (i + 1) l)) e (rw (drop-cons l i d h, add-one i)) u

pub flat_all : {A : Type 0} (f : A → List ℕ) (l : List A) (i : ℕ) (m g : List Bool) → length l ≤ i → g ≡ marked_by m (flat f (drop i l)) → m ≡ g
flat_all {A = A} f l i m g h e = sym (e ∙ ap (λ (x : List A). marked_by m (flat f x)) (drop_of_length-le l h) ∙ noted_nil m)
