-- Assertions true, and assertions refuted, in states that runs reach, each worked out by hand from the scope page.
use mathlib.Core.Path.{◌≡◌, refl, sym, subst}
use mathlib.Core.Bool.{Bool, true, false, not}
use mathlib.Core.List.{List, [], ◌∷◌}
use mathlib.Core.Logic.{◌≢◌, ◌⊎◌, inl, inr}
use Prim.Native.Nat.{ℕ, zero, suc, ◌≤◌, ◌<◌}
use native.Mathlib.Omega.{arith}
use lib.Dec.{T, eqb, ltb}
use borrow.Author.Tests.{ltb-true, ltb-false, lt-ltb, ne_eqb}
use lib.ListN.{length, take, drop}
use lib.Seq.{take-length, drop-length}
use Rattle.semantics.specs.Base.{upd, All}
use Rattle.semantics.specs.Formula.{Test, Formula, Formula.const, Formula.reg, Formula.word, Formula.equal, Formula.unsync, Formula.cov, Formula.box, Formula.one, Formula.chop, Formula.both, Formula.either, Formula.sees, Formula.start, Formula.holds}
use Rattle.semantics.specs.Eval.{Env, test}
use Rattle.semantics.specs.Machine.{View, State, Program, Mode.store, Access.write, Instr.act, at, begin, run, up, down}
use Rattle.semantics.specs.Truth.{Sat, From, Names, Prospect, True}
use Rattle.semantics.proofs.Base.{upds, by_word}
use Rattle.semantics.proofs.Cuts.{All-map}
use Rattle.semantics.proofs.Prospects.{from_drop, from_all}
use Rattle.semantics.proofs.Starts.{begins}
use Rattle.semantics.proofs.Computed.{begun, by, nothing, at_points, sender, receiver, message_passing, mixed, uncleared}
use Rattle.semantics.proofs.Flags.{naming}

-- PROSPECTS CUT IN TWO: from some place on the views are late
module _ (size : ℕ → ℕ) (late : View → Bool) (stays : (v w : View) → ((x : ℕ) → v x ≤ w x) → late v ≡ true → late w ≡ true) where
  all_late : (Q : View → Type 0) (v : View) → late v ≡ true → (l : List View) → From size v l → All Q l → All (λ w. Q w × (late w ≡ true)) l
  all_late Q v h [] f q = tt
  all_late Q v h (w ∷ l) f q = ((q.0, stays v w f.1 h), all_late Q w (stays v w f.1 h) l f.2 q.1)

  cut : (Q : View → Type 0) (a : View) (l : List View) → From size a l → All Q l
      → (k : ℕ) × All (λ w. Q w × (late w ≡ false)) (take k l) × All (λ w. Q w × (late w ≡ true)) (drop k l)
  cut Q a [] f q = (0, tt, tt)
  cut Q a (v ∷ l) f q = go (late v) refl (cut Q v l f.2 q.1)
    where
      go : (b : Bool) → late v ≡ b → (k : ℕ) × All (λ w. Q w × (late w ≡ false)) (take k l) × All (λ w. Q w × (late w ≡ true)) (drop k l)
          → (k : ℕ) × All (λ w. Q w × (late w ≡ false)) (take k (v ∷ l)) × All (λ w. Q w × (late w ≡ true)) (drop k (v ∷ l))
      go true e r = (0, tt, ((q.0, e), all_late Q v e l f.2 q.1))
      go false e r = (suc r.0, ((q.0, e), r.1), r.2)

-- past the first write of x
past : ℕ → View → Bool
past x v = ltb 0 (v x)

past_stays : (x : ℕ) (v w : View) → ((y : ℕ) → v y ≤ w y) → past x v ≡ true → past x w ≡ true
unfolding past
past_stays x v w h e = lt-ltb 0 (w x) (omega (arith, h x, ltb-true 0 (v x) e))

past_no : (x : ℕ) (v : View) → past x v ≡ false → v x ≡ 0
unfolding past
past_no x v e = omega (arith, ltb-false 0 (v x) e)

past_yes : (x : ℕ) (v : View) → v x < 2 → past x v ≡ true → v x ≡ 1
unfolding past
past_yes x v b e = omega (arith, ltb-true 0 (v x) e)

past_on : (x : ℕ) (v : View) → past x v ≡ true → 0 < v x
unfolding past
past_on x v e = ltb-true 0 (v x) e

-- at the last write
pinned : (n m : ℕ) → n < suc m → m ≤ n → n ≡ m
pinned n m a b = omega arith

-- VIEWS OF WORDS 1 AND 2

naming_one : (m n : ℕ) → naming m n 1 ≡ m
unfolding naming upd up down
naming_one m n = refl

naming_two : (m n : ℕ) → naming m n 2 ≡ n
unfolding naming upd up down
naming_two m n = refl

elsewhere : (m n y : ℕ) → y ≢ 1 → y ≢ 2 → naming m n y ≡ 0
unfolding naming
elsewhere m n y p q = simp upds

by_two : (P : ℕ → Type 0) → P 1 → P 2 → ((y : ℕ) → y ≢ 1 → y ≢ 2 → P y) → (y : ℕ) → P y
by_two P a b c = by_word 1 P a (λ y p. by_word 2 (λ z. z ≢ 1 → P z) (λ k. b) (λ z q k. c z k q) y p)

-- it names writes that are there, if the rows of other words have their first
names_two : (size : ℕ → ℕ) (m n : ℕ) → m < size 1 → n < size 2 → ((y : ℕ) → 0 < size y) → Names size (naming m n)
names_two size m n p q h = by_two _ (omega (arith, naming_one m n)) (omega (arith, naming_two m n))
    (λ y a b. omega (arith, elsewhere m n y a b, h y))

-- it is not before a view that names the first write of every other word
after_two : (v : View) (m n : ℕ) → v 1 ≤ m → v 2 ≤ n → ((y : ℕ) → y ≢ 1 → y ≢ 2 → v y ≡ 0) → (y : ℕ) → v y ≤ naming m n y
after_two v m n p q h = by_two _ (omega (arith, naming_one m n)) (omega (arith, naming_two m n)) (λ y a b. omega (arith, h y a b))

-- a test at such a view
module _ (P : Program) (s : State) (e : Test) where
  abbrev Reads : ℕ → ℕ → Type 0
  Reads m n = T (test P.range (at P s (naming m n)) e)

  reads : (v : View) (m n : ℕ) → v 1 ≡ m → v 2 ≡ n → Reads m n → Reads (v 1) (v 2)
  reads v m n p q h = subst (λ (i : ℕ). Reads i (v 2)) (sym p) (subst (λ (i : ℕ). Reads m i) (sym q) h)

-- what is needed of a state to name its prospects: rows with a write, and a thread whose view names the first write of other words
record Small (s : State) (t : ℕ) : Type 0 where
  filled : (y : ℕ) → 0 < s.size y
  first : (y : ℕ) → y ≢ 1 → y ≢ 2 → s.view t y ≡ 0

module _ (s : State) (t : ℕ) (h : Small s t) where
  -- the prospect of one view, and of two
  once : (m n : ℕ) → m < s.size 1 → n < s.size 2 → s.view t 1 ≤ m → s.view t 2 ≤ n → Prospect s.size (s.view t) (naming m n ∷ [])
  once m n a b c d = (names_two s.size m n a b h.filled, after_two (s.view t) m n c d h.first, tt)

  twice : (m n i j : ℕ) → m < s.size 1 → n < s.size 2 → s.view t 1 ≤ m → s.view t 2 ≤ n → i < s.size 1 → j < s.size 2 → m ≤ i → n ≤ j
      → Prospect s.size (s.view t) (naming m n ∷ naming i j ∷ [])
  twice m n i j a b c d e f p q = (
    names_two s.size m n a b h.filled,
    after_two (s.view t) m n c d h.first,
    (names_two s.size i j e f h.filled, after_naming, tt),
  )
    where
      after_naming : (y : ℕ) → naming m n y ≤ naming i j y
      after_naming = after_two (naming m n) i j (omega (arith, naming_one m n)) (omega (arith, naming_two m n)) (elsewhere m n)

-- of a prospect: each view names writes that are there, none before the thread's
each_view : (size : ℕ → ℕ) (a : View) (l : List View) → Prospect size a l
    → From size a l × All (λ w. Names size w × ((y : ℕ) → a y ≤ w y)) l
each_view size a [] h = elim h [ ]
each_view size a (v ∷ l) h = (h, from_all size a (v ∷ l) h)

-- a list of one view cut in two; of two views
module _ (R : ℕ) (ρ : View → Env) (e f : Test) where
  cut_one : (v : View) → Sat R ρ (chop (box e) (box f)) (v ∷ []) → T (test R (ρ v) e) ⊎ T (test R (ρ v) f)
  cut_one v h = go h.0 h.1 h.2
    where
      go : (k : ℕ) → Sat R ρ (box e) (take k (v ∷ [])) → Sat R ρ (box f) (drop k (v ∷ [])) → T (test R (ρ v) e) ⊎ T (test R (ρ v) f)
      go zero a b = inr b.0
      go (suc k) a b = inl a.0

  cut_two : (v w : View) → Sat R ρ (chop (box e) (box f)) (v ∷ w ∷ []) → T (test R (ρ v) e) ⊎ T (test R (ρ w) f)
  cut_two v w h = go h.0 h.1 h.2
    where
      go : (k : ℕ) → Sat R ρ (box e) (take k (v ∷ w ∷ [])) → Sat R ρ (box f) (drop k (v ∷ w ∷ [])) → T (test R (ρ v) e) ⊎ T (test R (ρ w) f)
      go zero a b = inr b.1.0
      go (suc k) a b = inl a.0

neither : {A B : Type 0} → (A → ⊥) → (B → ⊥) → A ⊎ B → ⊥
neither f g (inl a) = f a
neither f g (inr b) = g b

-- word x has the value n
is : ℕ → ℕ → Test
is x n = equal (word x) (const n)

-- ONE WRITE, NOT ONE VALUE: thread 1 has stored 0 to word 1, which had 0
twins : Program
twins = record {
  threads = 2;
  words = 1;
  range = 8;
  init = λ x. 0;
  cleared = λ r. true;
  points = upd (λ t. 1) 1 2;
  code = upd (λ t k. nothing) 1 (at_points (act (write (store false) 1 (const 0)) [] ∷ []));
}

twinned : State
twinned = run twins (begun twins) (by 1 0 ∷ [])

twinned_small : Small twinned 2
unfolding by nothing at_points twins twinned upd up down
twinned_small = record {
  filled = by_word 1 _ (omega arith) (λ y q. rw (ne_eqb y 1 q) (omega arith));
  first = λ y p q. rw (ne_eqb y 1 p);
}

-- thread 2 may go from the one write to the other
two_writes : True twins twinned (sees 2 (one 1)) → ⊥
unfolding by nothing at_points twins twinned upd naming up down
two_writes h =
    let r = h (naming 0 0 ∷ naming 1 0 ∷ []) (twice twinned 2 twinned_small 0 0 1 0 (omega arith) (omega arith) (omega arith)
    (omega arith) (omega arith) (omega arith) (omega arith) (omega arith)) in
    omega (arith, r.1.0, r.1.1.0)

-- their values are equal
equal_values : True twins twinned (sees 2 (box (is 1 0)))
unfolding by nothing at_points twins twinned upd naming is up down
equal_values l h = All-map _ _ (λ v k. go (v 1) (k.0 1)) l (each_view twinned.size (twinned.view 2) l h).1
  where
    go : (i : ℕ) → i < 2 → T (eqb (twinned.row 1 i).value 0)
    go zero k = tt
    go (suc zero) k = tt
    go (suc (suc i)) k = absurd (omega arith)

-- thread 1 is at the last
last_write : True twins twinned (sees 1 (one 1))
unfolding by nothing at_points twins twinned upd up down
last_write l h = (1, All-map _ _ (λ v k. pinned (v 1) 1 (k.0 1) (k.1 1)) l (each_view twinned.size (twinned.view 1) l h).1)

-- from the first to the second, and never back
one_by_one : True twins twinned (sees 2 (chop (one 1) (one 1)))
unfolding by nothing at_points twins twinned upd up down
one_by_one l h =
    let r = each_view twinned.size (twinned.view 2) l h in
    let c = cut twinned.size (past 1) (past_stays 1) _ (twinned.view 2) l r.0 r.1 in (
      c.0,
      (0, All-map _ _ (λ v k. past_no 1 v k.1) (take c.0 l) c.1),
      (1, All-map _ _ (λ v k. past_yes 1 v (k.0.0 1) k.1) (drop c.0 l) c.2),
    )

-- A MESSAGE SENT: thread 1 has stored 1 to word 1 and, releasing, 1 to word 2; thread 2 has seen neither
sent : State
sent = run message_passing (begun message_passing) (by 1 0 ∷ by 1 0 ∷ [])

sent_small : Small sent 2
unfolding by nothing at_points sender receiver message_passing sent upd up down
sent_small = record {
  filled = by_two _ (omega arith) (omega arith) (λ y p q. rw (ne_eqb y 1 p, ne_eqb y 2 q) (omega arith));
  first = λ y p q. rw (ne_eqb y 1 p, ne_eqb y 2 q);
}

sent_once : (m n : ℕ) → m < 2 → n < 2 → Prospect sent.size (sent.view 2) (naming m n ∷ [])
unfolding by nothing at_points sender receiver message_passing sent upd up down
sent_once m n a b = once sent 2 sent_small m n a b (omega arith) (omega arith)

sent_twice : (m n i j : ℕ) → m < 2 → n < 2 → i < 2 → j < 2 → m ≤ i → n ≤ j
    → Prospect sent.size (sent.view 2) (naming m n ∷ naming i j ∷ [])
unfolding by nothing at_points sender receiver message_passing sent upd up down
sent_twice m n i j a b c d = twice sent 2 sent_small m n i j a b (omega arith) (omega arith) c d

-- thread 2 sees neither value alone
not_only_old : True message_passing sent (sees 2 (box (is 1 0))) → ⊥
unfolding by nothing at_points sender receiver message_passing sent upd naming is up down
not_only_old h = (h (naming 1 0 ∷ []) (sent_once 1 0 (omega arith) (omega arith))).0

not_only_new : True message_passing sent (sees 2 (box (is 1 1))) → ⊥
unfolding by nothing at_points sender receiver message_passing sent upd naming is up down
not_only_new h = (h (naming 0 0 ∷ []) (sent_once 0 0 (omega arith) (omega arith))).0

-- nor one of the two for the whole of each prospect: it moves on within one
not_either : True message_passing sent (sees 2 (either (box (is 1 0)) (box (is 1 1)))) → ⊥
unfolding by nothing at_points sender receiver message_passing sent upd naming is up down
not_either h = neither (λ a. a.1.0) (λ b. b.0)
    (h (naming 0 0 ∷ naming 1 0 ∷ []) (sent_twice 0 0 1 0 (omega arith) (omega arith) (omega arith) (omega arith) (omega arith)
    (omega arith)))

-- but the old one and then the new one, either part perhaps empty
old_then_new : True message_passing sent (sees 2 (chop (box (is 1 0)) (box (is 1 1))))
unfolding by nothing at_points sender receiver message_passing sent upd naming is up down
old_then_new l h =
    let r = each_view sent.size (sent.view 2) l h in
    let c = cut sent.size (past 1) (past_stays 1) _ (sent.view 2) l r.0 r.1 in (
      c.0,
      All-map _ _ (λ v k. reads message_passing sent (is 1 0) v 0 (v 2) (past_no 1 v k.1) refl tt) (take c.0 l) c.1,
      All-map _ _ (λ v k. reads message_passing sent (is 1 1) v 1 (v 2) (past_yes 1 v (k.0.0 1) k.1) refl tt) (drop c.0 l) c.2,
    )

not_new_then_old : True message_passing sent (sees 2 (chop (box (is 1 1)) (box (is 1 0)))) → ⊥
unfolding by nothing at_points sender receiver message_passing sent upd naming is up down
not_new_then_old h =
    neither (λ a. a) (λ b. b)
    (cut_two message_passing.range (at message_passing sent) (is 1 1) (is 1 0) (naming 0 0) (naming 1 0)
    (h (naming 0 0 ∷ naming 1 0 ∷ []) (sent_twice 0 0 1 0 (omega arith) (omega arith) (omega arith) (omega arith) (omega arith)
    (omega arith))))

-- whoever reads the flag relaxed may still miss the message
not_relaxed : True message_passing sent (sees 2 (chop (box (is 2 0)) (box (is 1 1)))) → ⊥
unfolding by nothing at_points sender receiver message_passing sent upd naming is up down
not_relaxed h =
    neither (λ a. a) (λ b. b)
    (cut_one message_passing.range (at message_passing sent) (is 2 0) (is 1 1) (naming 0 1)
    (h (naming 0 1 ∷ []) (sent_once 0 1 (omega arith) (omega arith))))

-- the flag is not there, or it is not synchronised with, or the message is there: in this order
sync_then : (l : List View) → From sent.size (sent.view 2) l
    → All (λ w. (Names sent.size w × ((y : ℕ) → sent.view 2 y ≤ w y)) × (past 2 w ≡ true)) l
    → Sat message_passing.range (at message_passing sent) (chop (box (unsync 2)) (box (is 1 1))) l
unfolding by nothing at_points sender receiver message_passing sent upd naming is up down
sync_then l f q =
    let d = cut sent.size (past 1) (past_stays 1) _ (sent.view 2) l f q in (
      d.0,
      All-map _ _ (λ v k. reads message_passing sent (unsync 2) v 0 1 (past_no 1 v k.1) (past_yes 2 v (k.0.0.0 2) k.0.1) tt)
          (take d.0 l) d.1,
      All-map _ _ (λ v k. reads message_passing sent (is 1 1) v 1 (v 2) (past_yes 1 v (k.0.0.0 1) k.1) refl tt) (drop d.0 l)
          d.2,
    )

message_follows : True message_passing sent (sees 2 (chop (box (is 2 0)) (chop (box (unsync 2)) (box (is 1 1)))))
unfolding by nothing at_points sender receiver message_passing sent upd naming is up down
message_follows l h =
    let r = each_view sent.size (sent.view 2) l h in
    let c = cut sent.size (past 2) (past_stays 2) _ (sent.view 2) l r.0 r.1 in (
      c.0,
      All-map _ _ (λ v k. reads message_passing sent (is 2 0) v (v 1) 0 refl (past_no 2 v k.1) tt) (take c.0 l) c.1,
      sync_then (drop c.0 l) (from_drop sent.size (sent.view 2) c.0 l r.0) c.2,
    )

not_unsync : True message_passing sent (sees 2 (box (unsync 2))) → ⊥
unfolding by nothing at_points sender receiver message_passing sent upd naming up down
not_unsync h = (h (naming 0 0 ∷ []) (sent_once 0 0 (omega arith) (omega arith))).0

not_in_sync : True message_passing sent (sees 2 (box (Formula.not (unsync 2)))) → ⊥
unfolding by nothing at_points sender receiver message_passing sent upd naming up down
not_in_sync h = (h (naming 0 1 ∷ []) (sent_once 0 1 (omega arith) (omega arith))).0

-- thread 1 is at its own write of the flag
own_in_sync : True message_passing sent (sees 1 (box (Formula.not (unsync 2))))
unfolding by nothing at_points sender receiver message_passing sent upd naming up down
own_in_sync l h =
    All-map _ _ (λ v k. reads message_passing sent (Formula.not (unsync 2)) v 1 1 (pinned (v 1) 1 (k.0 1) (k.1 1))
    (pinned (v 2) 1 (k.0 2) (k.1 2)) tt) l (each_view sent.size (sent.view 1) l h).1

-- AN EMPTY PART satisfies every interval, in the first place and in the second; but not both parts are empty
sees_new : (l : List View) → Prospect sent.size (sent.view 1) l
    → Sat message_passing.range (at message_passing sent) (box (is 1 1)) l
unfolding by nothing at_points sender receiver message_passing sent upd naming is up down
sees_new l h = All-map _ _ (λ v k. reads message_passing sent (is 1 1) v 1 (v 2) (pinned (v 1) 1 (k.0 1) (k.1 1)) refl tt) l
    (each_view sent.size (sent.view 1) l h).1

first_empty : True message_passing sent (sees 1 (chop (box Formula.false) (box (is 1 1))))
first_empty l h = (0, tt, sees_new l h)

second_empty : True message_passing sent (sees 1 (chop (box (is 1 1)) (box Formula.false)))
second_empty l h = (
  length l,
  subst (Sat message_passing.range (at message_passing sent) (box (is 1 1))) (sym (take-length l)) (sees_new l h),
  subst (Sat message_passing.range (at message_passing sent) (box Formula.false)) (sym (drop-length l)) tt,
)

not_both_empty : True message_passing sent (sees 2 (chop (box Formula.false) (box Formula.false))) → ⊥
not_both_empty h =
    neither (λ a. a) (λ b. b)
    (cut_one message_passing.range (at message_passing sent) Formula.false Formula.false (naming 0 0)
    (h (naming 0 0 ∷ []) (sent_once 0 0 (omega arith) (omega arith))))

-- START is true of the start states only
at_start : True message_passing (begun message_passing) start
unfolding message_passing
at_start = begins message_passing (omega arith) (λ r. 0)

not_at_start : True message_passing sent start → ⊥
unfolding by nothing at_points sender receiver message_passing sent upd up down
not_at_start h = omega (arith, h.one_write 1)

-- register 1 starts anywhere, register 2 does not
starts_anywhere : True uncleared (begin uncleared (λ r. 5)) start
unfolding uncleared
starts_anywhere = begins uncleared (omega arith) (λ r. 5)

any_value : True uncleared (begin uncleared (λ r. 5)) (holds (equal (reg 1) (const 5)))
unfolding uncleared
any_value = tt

-- the start state with other values in the registers
holding : (ℕ → ℕ) → State
holding g = record {
  size = (begun uncleared).size;
  row = (begun uncleared).row;
  view = (begun uncleared).view;
  reg = g;
  point = (begun uncleared).point;
}

-- a 5 in register 2
not_cleared : True uncleared (holding (λ r. 5)) start → ⊥
unfolding uncleared holding
not_cleared h = omega (arith, h.registers 2 tt)

-- an 8 in register 1, which is no value
no_value : True uncleared (holding (upd (λ r. 0) 1 8)) start → ⊥
unfolding uncleared holding upd
no_value h = omega (arith, h.values 1)

-- AFTER THE ACQUIRING LOAD of the flag thread 2 is in step, and the message is all that it sees
taken_in : State
taken_in = run message_passing (begun message_passing) (by 1 0 ∷ by 1 0 ∷ by 2 1 ∷ [])

acquired : True message_passing taken_in (sees 2 (both (box (Formula.not (unsync 2))) (box (is 1 1))))
unfolding by nothing at_points sender receiver message_passing taken_in upd naming is up down
acquired l h = (
  All-map _ _ (λ v k. reads message_passing taken_in (Formula.not (unsync 2)) v 1 1 (pinned (v 1) 1 (k.0 1) (k.1 1))
      (pinned (v 2) 1 (k.0 2) (k.1 2)) tt) l
      (each_view taken_in.size (taken_in.view 2) l h).1,
  All-map _ _ (λ v k. reads message_passing taken_in (is 1 1) v 1 (v 2) (pinned (v 1) 1 (k.0 1) (k.1 1)) refl tt) l
      (each_view taken_in.size (taken_in.view 2) l h).1,
)

-- HELD: the registers alone
held : True message_passing taken_in (holds (equal (reg 1) (const 1)))
unfolding by nothing at_points sender receiver message_passing taken_in upd up down
held = tt

not_held : True message_passing sent (holds (equal (reg 1) (const 1))) → ⊥
unfolding by nothing at_points sender receiver message_passing sent upd up down
not_held h = h

-- A WRITE COVERED: thread 1 has stored 1 to word 1, and thread 2 has swapped 2 in behind the first write; thread 3 has seen neither
swapped : State
swapped = run mixed (begun mixed) (by 1 0 ∷ by 2 0 ∷ [])

swapped_small : Small swapped 3
unfolding by nothing at_points mixed swapped upd up down
swapped_small = record {
  filled = by_word 1 _ (omega arith) (λ y q. rw (ne_eqb y 1 q) (omega arith));
  first = λ y p q. rw (ne_eqb y 1 p);
}

swapped_once : (m : ℕ) → m < 3 → Prospect swapped.size (swapped.view 3) (naming m 0 ∷ [])
unfolding by nothing at_points mixed swapped upd up down
swapped_once m a = once swapped 3 swapped_small m 0 a (omega arith) (omega arith) (omega arith)

-- the first write is covered, those behind it are not
covered_first : True mixed swapped (sees 3 (chop (box (cov 1)) (box (Formula.not (cov 1)))))
unfolding by nothing at_points mixed swapped upd naming up down
covered_first l h =
    let r = each_view swapped.size (swapped.view 3) l h in
    let c = cut swapped.size (past 1) (past_stays 1) _ (swapped.view 3) l r.0 r.1 in (
      c.0,
      All-map _ _ (λ v k. reads mixed swapped (cov 1) v 0 (v 2) (past_no 1 v k.1) refl tt) (take c.0 l) c.1,
      All-map _ _ (λ v k. go (v 1) (k.0.0 1) (past_on 1 v k.1)) (drop c.0 l) c.2,
    )
  where
    go : (i : ℕ) → i < 3 → 0 < i → T (not (swapped.row 1 i).covered)
    go zero a b = absurd (omega arith)
    go (suc zero) a b = tt
    go (suc (suc zero)) a b = tt
    go (suc (suc (suc i))) a b = absurd (omega arith)

not_covered : True mixed swapped (sees 3 (box (cov 1))) → ⊥
unfolding by nothing at_points mixed swapped upd naming up down
not_covered h = (h (naming 2 0 ∷ []) (swapped_once 2 (omega arith))).0

not_uncovered : True mixed swapped (sees 3 (box (Formula.not (cov 1)))) → ⊥
unfolding by nothing at_points mixed swapped upd naming up down
not_uncovered h = (h (naming 0 0 ∷ []) (swapped_once 0 (omega arith))).0
