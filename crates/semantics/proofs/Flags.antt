-- What the names stand for at a view, in the scope page's sentences, for every program, state and view; and the two flags computed, in
-- each combination.
use mathlib.Core.Path.{◌≡◌, refl}
use mathlib.Core.Bool.{Bool, true, false, ◌||◌}
use mathlib.Core.List.{List, [], ◌∷◌, map}
use Prim.Native.Nat.{ℕ, zero, suc, ◌<◌}
use native.Mathlib.Omega.{arith}
use lib.Dec.{T, ltb, ltb→lt, lt→ltb}
use Rattle.semantics.specs.Base.{upd, Within}
use Rattle.semantics.specs.Machine.{View, State, Program, at, later, run, up, down}
use Rattle.semantics.proofs.Base.{by_word, and_left, and_right, and_both, is_true, holds_true}
use Rattle.semantics.proofs.Computed.{begun, yes_no, by, nothing, at_points, handed, dropped}

-- v is before w in some word of the program
pub record Behind (words : ℕ) (v w : View) : Type 0 where
  pub word : ℕ
  pub there : Within words word
  pub before : v word < w word

-- unsync x: the view's write of x is releasing, and its stored view is later than this view in some word
pub record Unsync (P : Program) (s : State) (v : View) (x : ℕ) : Type 0 where
  pub releasing : (s.row x (v x)).releasing ≡ true
  pub behind : Behind P.words v (s.row x (v x)).stored

pub later_behind : (n : ℕ) (w v : View) → T (later n w v) → Behind n v w
later_behind zero w v h = absurd h
later_behind (suc n) w v h = go (ltb (v (suc n)) (w (suc n))) refl h (later_behind n w v)
  where
    go : (b : Bool) → ltb (v (suc n)) (w (suc n)) ≡ b → T (b || later n w v) → (T (later n w v) → Behind n v w) → Behind (suc n) v w
    go true e h f = record { word = suc n; there = (omega arith, omega arith); before = ltb→lt (v (suc n)) (w (suc n)) (is_true e) }
    go false e h f = let b = f h in record { word = b.word; there = (b.there.0, omega (arith, b.there.1)); before = b.before }

pub behind_later : (n : ℕ) (w v : View) → Behind n v w → T (later n w v)
behind_later zero w v h = absurd (omega (arith, h.there.0, h.there.1))
behind_later (suc n) w v h = go (ltb (v (suc n)) (w (suc n))) refl (behind_later n w v)
  where
    go : (b : Bool) → ltb (v (suc n)) (w (suc n)) ≡ b → (Behind n v w → T (later n w v)) → T (b || later n w v)
    go true e f = tt
    go false e f =
        by_word (suc n) (λ y. Within (suc n) y → v y < w y → T (later n w v))
        (λ k l. absurd (rw e at (lt→ltb (v (suc n)) (w (suc n)) l)))
        (λ y q k l. f (record { word = y; there = (k.0, omega (arith, k.1)); before = l }))
        h.word h.there h.before

module _ (P : Program) (s : State) (v : View) (x : ℕ) where
  pub unsync_sound : T ((at P s v).unsync x) → Unsync P s v x
  unsync_sound h = record {
    releasing = holds_true (s.row x (v x)).releasing
        (and_left (s.row x (v x)).releasing (later P.words (s.row x (v x)).stored v) h);
    behind = later_behind P.words (s.row x (v x)).stored v
        (and_right (s.row x (v x)).releasing (later P.words (s.row x (v x)).stored v) h);
  }

  pub unsync_whole : Unsync P s v x → T ((at P s v).unsync x)
  unsync_whole h =
      and_both (s.row x (v x)).releasing (later P.words (s.row x (v x)).stored v) (is_true h.releasing)
      (behind_later P.words (s.row x (v x)).stored v h.behind)

  -- cov x: that write is covered; a word's value is that of the write named; a register's is the state's
  pub cov_covered : (at P s v).cov x ≡ (s.row x (v x)).covered
  cov_covered = refl

  pub word_value : (at P s v).word x ≡ (s.row x (v x)).value
  word_value = refl

  pub reg-value : (r : ℕ) → (at P s v).reg r ≡ s.reg r
  reg-value r = refl

-- COMPUTED

-- the view that names the positions m of word 1 and n of word 2
unfoldable pub naming : ℕ → ℕ → View
naming m n = upd (upd (λ y. 0) 2 n) 1 m

-- unsync and cov of a word, 1 for yes
flags : Program → State → View → ℕ → List ℕ
flags P s v x = yes_no ((at P s v).unsync x) ∷ yes_no ((at P s v).cov x) ∷ []

-- word 2: its first write; a covered one and one that is not, both releasing, both with a view that names the second write of word 1
handed_flags : map (λ v. flags handed (run handed (begun handed) (by 1 0 ∷ by 1 0 ∷ by 2 1 ∷ [])) v 2)
    (naming 0 0 ∷ naming 0 1 ∷ naming 1 1 ∷ naming 0 2 ∷ naming 1 2 ∷ [])
    ≡ (0 ∷ 0 ∷ []) ∷ (1 ∷ 1 ∷ []) ∷ (0 ∷ 1 ∷ []) ∷ (1 ∷ 0 ∷ []) ∷ (0 ∷ 0 ∷ []) ∷ []
unfolding yes_no by nothing at_points handed upd naming flags up down
handed_flags = refl

-- word 1: its second write has a later view, and is not releasing; once swapped it is covered
dropped_flags : map (λ l. flags dropped (run dropped (begun dropped) l) (naming 1 0) 1)
    ((by 1 0 ∷ by 1 0 ∷ []) ∷ (by 1 0 ∷ by 1 0 ∷ by 2 1 ∷ []) ∷ [])
    ≡ (0 ∷ 0 ∷ []) ∷ (0 ∷ 1 ∷ []) ∷ []
unfolding yes_no by nothing at_points dropped upd naming flags up down
dropped_flags = refl
