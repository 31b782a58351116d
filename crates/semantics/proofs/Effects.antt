-- What each instruction does, in the scope page's sentences, for every program and state: each part of the state after it, at every place.
use mathlib.Core.Path.{◌≡◌, refl, sym, ◌∙◌, ap, subst}
use mathlib.Core.Bool.{Bool, true, false, cond, ◌&&◌, true≢false}
use mathlib.Core.List.{List, [], ◌∷◌}
use mathlib.Core.Logic.{◌≢◌, ◌⊎◌, inl, inr}
use Prim.Native.Nat.{ℕ, suc, ◌+◌, ◌%◌, max, ◌≤◌, ◌<◌}
use native.Mathlib.Omega.{arith}
use lib.Dec.{eqb, leb}
use borrow.Author.Tests.{eqb-true, eqb-false, leb-true, leb-false}
use Rattle.semantics.specs.Base.{upd}
use Rattle.semantics.specs.Formula.{Value, Test, Formula.reg}
use Rattle.semantics.specs.Replace.{Note}
use Rattle.semantics.specs.Eval.{on_regs, test}
use Rattle.semantics.specs.Machine.{View, Write, State, Program, Mode.store, Mode.swap, Mode.exchange, Mode.fetch_add, Access, Access.none, Access.load, Access.write, Instr.act, Instr.branch, worked, join, down, up_view, up_write, move_to, insert, cover, swap_view, swapped, with_regs, done, exec}
use Rattle.semantics.proofs.Base.{upds, upd_other₁, up_is, down_is}

-- INSERTION of a write behind the position p of x. The write that was at i of y is at j: nothing moves but the writes of x after p
pub record Keeps (x p y i j : ℕ) : Type 0 where
  pub elsewhere : y ≢ x → j ≡ i
  pub not_after : y ≡ x → i ≤ p → j ≡ i
  pub after : y ≡ x → p < i → j ≡ suc i

-- a view keeps its write of each word
abbrev pub KeepsView : ℕ → ℕ → View → View → Type 0
KeepsView x p v w = (y : ℕ) → Keeps x p y (v y) (w y)

-- a write stays as it is; its stored view keeps its writes
pub record KeepsWrite (x p : ℕ) (a b : Write) : Type 0 where
  pub value : b.value ≡ a.value
  pub releasing : b.releasing ≡ a.releasing
  pub covered : b.covered ≡ a.covered
  pub stored : KeepsView x p a.stored b.stored

-- t inserts a write of value n directly behind the position p of x, from the view v: the view moves to it, and that view is stored with it
pub record Inserts (releasing : Bool) (x n t p : ℕ) (v : View) (s s' : State) : Type 0 where
  pub one_more : s'.size x ≡ suc (s.size x)
  pub as_many : (y : ℕ) → y ≢ x → s'.size y ≡ s.size y
  pub writes : (y i j : ℕ) → Keeps x p y i j → KeepsWrite x p (s.row y i) (s'.row y j)
  pub new-value : (s'.row x (suc p)).value ≡ n
  pub new_mark : (s'.row x (suc p)).releasing ≡ releasing
  pub new_uncovered : (s'.row x (suc p)).covered ≡ false
  pub new_stored : (y : ℕ) → (s'.row x (suc p)).stored y ≡ s'.view t y
  pub moved : s'.view t x ≡ suc p
  pub own_view : (y : ℕ) → y ≢ x → s'.view t y ≡ v y
  pub views : (u : ℕ) → u ≢ t → KeepsView x p (s.view u) (s'.view u)
  pub registers : (r : ℕ) → s'.reg r ≡ s.reg r

-- the write at p of x is covered, and nothing else changes
pub record Covers (x p : ℕ) (s s' : State) : Type 0 where
  pub covered : (s'.row x p).covered ≡ true
  pub value : (s'.row x p).value ≡ (s.row x p).value
  pub releasing : (s'.row x p).releasing ≡ (s.row x p).releasing
  pub stored : (y : ℕ) → (s'.row x p).stored y ≡ (s.row x p).stored y
  pub row : (i : ℕ) → i ≢ p → s'.row x i ≡ s.row x i
  pub rows : (y i : ℕ) → y ≢ x → s'.row y i ≡ s.row y i
  pub sizes : (y : ℕ) → s'.size y ≡ s.size y
  pub views : (u y : ℕ) → s'.view u y ≡ s.view u y
  pub registers : (r : ℕ) → s'.reg r ≡ s.reg r

-- t loads the write at p of x into r
pub record Loads (acquires : Bool) (r x t p : ℕ) (s s' : State) : Type 0 where
  pub value : s'.reg r ≡ (s.row x p).value
  pub registers : (q : ℕ) → q ≢ r → s'.reg q ≡ s.reg q
  -- if it acquires and the write is releasing: word by word the later of the thread's view and the stored one
  pub joined : acquires ≡ true → (s.row x p).releasing ≡ true → (y : ℕ) → s'.view t y ≡ max (s.view t y) ((s.row x p).stored y)
  -- otherwise only that word moves
  pub moved : (acquires ≡ false) ⊎ ((s.row x p).releasing ≡ false) → (s'.view t x ≡ p) × ((y : ℕ) → y ≢ x → s'.view t y ≡ s.view t y)
  pub views : (u y : ℕ) → u ≢ t → s'.view u y ≡ s.view u y
  pub sizes : (y : ℕ) → s'.size y ≡ s.size y
  pub rows : (y i : ℕ) → s'.row y i ≡ s.row y i

-- r becomes n, and no shared word is touched
pub record Assigns (r n : ℕ) (s s' : State) : Type 0 where
  pub value : s'.reg r ≡ n
  pub registers : (q : ℕ) → q ≢ r → s'.reg q ≡ s.reg q
  pub views : (u y : ℕ) → s'.view u y ≡ s.view u y
  pub sizes : (y : ℕ) → s'.size y ≡ s.size y
  pub rows : (y i : ℕ) → s'.row y i ≡ s.row y i

-- a swap: the picked write is covered; if it is releasing, its stored view is joined in; then a releasing store
pub record Swaps (x n t p : ℕ) (s s' : State) : Type 0 where
  pub between : State
  pub covers : Covers x p s between
  pub from : View
  pub joined : (s.row x p).releasing ≡ true → (y : ℕ) → from y ≡ max (s.view t y) ((s.row x p).stored y)
  pub not_joined : (s.row x p).releasing ≡ false → (y : ℕ) → from y ≡ s.view t y
  pub inserts : Inserts true x n t p from between s'

-- what is done, and r becomes n in the same step: no other register, view or row tells it from the deed alone
pub record Noting (Does : State → Type 0) (r n : ℕ) (s' : State) : Type 0 where
  pub between : State
  pub does : Does between
  pub notes : Assigns r n between s'

-- a swap of n into x; and r has the value of the write that was picked
abbrev pub Returns : ℕ → ℕ → ℕ → ℕ → ℕ → State → State → Type 0
Returns r x n t p s = Noting (Swaps x n t p s) r (s.row x p).value

-- t goes to the point k, and nothing else changes
pub record Goes (k t : ℕ) (s s' : State) : Type 0 where
  pub point : s'.point t ≡ k
  pub points : (u : ℕ) → u ≢ t → s'.point u ≡ s.point u
  pub sizes : (y : ℕ) → s'.size y ≡ s.size y
  pub rows : (y i : ℕ) → s'.row y i ≡ s.row y i
  pub views : (u y : ℕ) → s'.view u y ≡ s.view u y
  pub registers : (r : ℕ) → s'.reg r ≡ s.reg r

-- PROOFS
keeps_up : (x p y : ℕ) (w : View) → Keeps x p y (w y) (up_view x p w y)
keeps_up x p y w = record {
  elsewhere = λ q. simp upds;
  not_after = λ e h. subst (λ (z : ℕ). w z ≤ p → up_view x p w z ≡ w z) (sym e) (λ k. simp upds (omega (arith, up_is p (w x)))) h;
  after = λ e h. subst (λ (z : ℕ). p < w z → up_view x p w z ≡ suc (w z)) (sym e) (λ k. simp upds (omega (arith, up_is p (w x)))) h;
}

keeps_write : (x p : ℕ) (w : Write) → KeepsWrite x p w (up_write x p w)
keeps_write x p w = record { value = refl; releasing = refl; covered = refl; stored = λ y. keeps_up x p y w.stored }

module _ (releasing : Bool) (x n t p : ℕ) (v : View) (s : State) where
  abbrev after_it : State
  after_it = insert releasing x n t p v s

  -- the write that was at i of x: where it is now
  own_row : (i j : ℕ) → Keeps x p x i j → after_it.row x j ≡ up_write x p (s.row x i)
  own_row i j k = go (leb i p) refl
    where
      go : (b : Bool) → leb i p ≡ b → after_it.row x j ≡ up_write x p (s.row x i)
      go true e =
          let h : i ≤ p = leb-true i p e in
          let q : j ≡ i = k.not_after refl h in
          let d : down p j ≡ i = omega (arith, down_is p j) in
          let m : j ≢ suc p = λ z. omega arith in
          simp upds (ap (λ (z : ℕ). up_write x p (s.row x z)) d)
      go false e =
          let h : p < i = leb-false i p e in
          let q : j ≡ suc i = k.after refl h in
          let d : down p j ≡ i = omega (arith, down_is p j) in
          let m : j ≢ suc p = λ z. omega arith in
          simp upds (ap (λ (z : ℕ). up_write x p (s.row x z)) d)

  old_writes : (y i j : ℕ) → Keeps x p y i j → KeepsWrite x p (s.row y i) (after_it.row y j)
  old_writes y i j k = go (eqb y x) refl
    where
      now_at : after_it.row y j ≡ up_write x p (s.row y i) → KeepsWrite x p (s.row y i) (after_it.row y j)
      now_at e = subst (KeepsWrite x p (s.row y i)) (sym e) (keeps_write x p (s.row y i))

      go : (b : Bool) → eqb y x ≡ b → KeepsWrite x p (s.row y i) (after_it.row y j)
      go true e =
          let q : y ≡ x = eqb-true y x e in
          now_at (subst (λ (z : ℕ). Keeps x p z i j → after_it.row z j ≡ up_write x p (s.row z i)) (sym q) (own_row i j) k)
      go false e =
          let q : y ≢ x = eqb-false y x e in
          now_at (upd_other₁ (λ z m. up_write x p (s.row z m)) x _ y j q ∙ ap (λ (z : ℕ). up_write x p (s.row y z)) (k.elsewhere q))

  pub inserts : Inserts releasing x n t p v s after_it
  inserts = record {
    one_more = simp upds;
    as_many = λ y q. simp upds;
    writes = old_writes;
    new-value = simp upds;
    new_mark = simp upds;
    new_uncovered = simp upds;
    new_stored = λ y. simp upds;
    moved = simp upds;
    own_view = λ y q. simp upds;
    views = λ u q y. subst (Keeps x p y (s.view u y)) (sym (upd_other₁ (λ z. up_view x p (s.view z)) t (move_to x p v) u y q))
        (keeps_up x p y (s.view u));
    registers = λ r. refl;
  }

pub covers : (x p : ℕ) (s : State) → Covers x p s (cover x p s)
covers x p s = record {
  covered = simp upds;
  value = simp upds;
  releasing = simp upds;
  stored = λ y. simp upds;
  row = λ i q. simp upds;
  rows = λ y i q. simp upds;
  sizes = λ y. refl;
  views = λ u y. refl;
  registers = λ r. refl;
}

-- the register r set to n in a state, whatever else was done
sets : (s : State) (r n : ℕ) → Assigns r n s (with_regs s (upd s.reg r n))
sets s r n = record { value = simp upds; registers = λ q h. simp upds; views = λ u y. refl; sizes = λ y. refl; rows = λ y i. refl }

abbrev note : ℕ → Value → Note
note r f = record { to = r; by = f }

module _ (P : Program) (t p : ℕ) (s : State) where
  pub assigns : (r : ℕ) (f : Value) → Assigns r (worked P s f) s (done P none (note r f ∷ []) t p s)
  assigns r f = sets s r (worked P s f)

  -- two assignments at once: both formulas are worked out in the state before
  abbrev twice : ℕ → Value → ℕ → Value → State
  twice r f q g = done P none (note r f ∷ note q g ∷ []) t p s

  pub assigns_two : (r q : ℕ) (f g : Value) → Noting (Assigns q (worked P s g) s) r (worked P s f) (twice r f q g)
  assigns_two r q f g =
      let once : State = done P none (note q g ∷ []) t p s in
      record { between = once; does = assigns q g; notes = sets once r (worked P s f) }

  -- so two registers trade values
  pub trades : (r q : ℕ) → q ≢ r → ((twice r (reg q) q (reg r)).reg r ≡ s.reg q) × ((twice r (reg q) q (reg r)).reg q ≡ s.reg r)
  trades r q h = (simp upds, simp upds)

  pub loads : (acquires : Bool) (r x : ℕ) → Loads acquires r x t p s (done P (load acquires r x) [] t p s)
  loads acquires r x = record {
    value = simp upds;
    registers = λ q h. simp upds;
    joined = λ a b y. simp (upds, a, b);
    moved = λ h. only_moved acquires (s.row x p).releasing h;
    views = λ u y q. simp upds;
    sizes = λ y. refl;
    rows = λ y i. refl;
  }
    where
      only_moved : (a b : Bool) → (a ≡ false) ⊎ (b ≡ false)
          → (upd s.view t (cond (a && b) (join (s.view t) (s.row x p).stored) (upd (s.view t) x p)) t x ≡ p)
          × ((y : ℕ) → y ≢ x → upd s.view t (cond (a && b) (join (s.view t) (s.row x p).stored) (upd (s.view t) x p)) t y ≡ s.view
          t y)
      only_moved false b h = (simp upds, λ y q. simp upds)
      only_moved true false h = (simp upds, λ y q. simp upds)
      only_moved true true (inl e) = absurd (true≢false e)
      only_moved true true (inr e) = absurd (true≢false e)

  -- a store; a swap, which is a releasing store that also covers the picked write
  pub stores : (releasing : Bool) (x : ℕ) (f : Value)
      → Inserts releasing x (worked P s f) t p (s.view t) s (done P (write (store releasing) x f) [] t p s)
  stores releasing x f = inserts releasing x (worked P s f) t p (s.view t) s

  pub swaps_in : (x n : ℕ) → Swaps x n t p s (swapped x n t p s)
  swaps_in x n = record {
    between = cover x p s;
    covers = covers x p s;
    from = swap_view s t x p;
    joined = λ e y. rw e;
    not_joined = λ e y. rw e;
    inserts = inserts true x n t p (swap_view s t x p) (cover x p s);
  }

  pub swaps : (x : ℕ) (f : Value) → Swaps x (worked P s f) t p s (done P (write swap x f) [] t p s)
  swaps x f = swaps_in x (worked P s f)

  -- a pair: the store or the swap, and the note. Both formulas are worked out in the state before, whatever registers they share
  abbrev with_note : Access → ℕ → Value → State
  with_note A r g = done P A (note r g ∷ []) t p s

  pub stores_noting : (releasing : Bool) (x r : ℕ) (f g : Value)
      → Noting (Inserts releasing x (worked P s f) t p (s.view t) s) r (worked P s g) (with_note (write (store releasing) x f) r g)
  stores_noting releasing x r f g =
      let once : State = done P (write (store releasing) x f) [] t p s in
      record { between = once; does = stores releasing x f; notes = sets once r (worked P s g) }

  pub swaps_noting : (x r : ℕ) (f g : Value)
      → Noting (Swaps x (worked P s f) t p s) r (worked P s g) (with_note (write swap x f) r g)
  swaps_noting x r f g =
      let once : State = done P (write swap x f) [] t p s in
      record { between = once; does = swaps x f; notes = sets once r (worked P s g) }

  -- so a store of register r that notes r writes what r held before
  pub stored_before : (releasing : Bool) (x r : ℕ) (g : Value)
      → ((with_note (write (store releasing) x (reg r)) r g).row x (suc p)).value ≡ s.reg r
  stored_before releasing x r g = simp upds

  -- an exchange and a fetch-add, which stores the old value plus f modulo the range: a swap that puts the old value into r
  returns_in : (r x n : ℕ) → Returns r x n t p s (with_regs (swapped x n t p s) (upd s.reg r (s.row x p).value))
  returns_in r x n = record { between = swapped x n t p s; does = swaps_in x n; notes = sets (swapped x n t p s) r (s.row x p).value }

  pub exchanges : (r x : ℕ) (f : Value) → Returns r x (worked P s f) t p s (done P (write (exchange r) x f) [] t p s)
  exchanges r x f = returns_in r x (worked P s f)

  pub adds : (r x : ℕ) (f : Value) → Returns r x (((s.row x p).value + worked P s f) % P.range) t p s
      (done P (write (fetch_add r) x f) [] t p s)
  adds r x f = returns_in r x (((s.row x p).value + worked P s f) % P.range)

  -- an action leads to the next point, and a branch to its target or to the next point; all else is the action's, or stays
  pub still : (A : Access) (ns : List Note) (u : ℕ) → (done P A ns t p s).point u ≡ s.point u
  still none ns u = refl
  still (load a r x) ns u = refl
  still (write (store b) x f) ns u = refl
  still (write swap x f) ns u = refl
  still (write (exchange r) x f) ns u = refl
  still (write (fetch_add r) x f) ns u = refl

  pub goes_on : (A : Access) (ns : List Note) → Goes (suc (s.point t)) t (done P A ns t p s) (exec P (act A ns) t p s)
  goes_on A ns = record {
    point = simp upds;
    points = λ u q. simp upds;
    sizes = λ y. refl;
    rows = λ y i. refl;
    views = λ u y. refl;
    registers = λ r. refl;
  }

  pub taken : (e : Test) (a : ℕ) → test P.range (on_regs s.reg) e ≡ true → Goes a t s (exec P (branch e a) t p s)
  taken e a h = record {
    point = simp (upds, h);
    points = λ u q. simp upds;
    sizes = λ y. refl;
    rows = λ y i. refl;
    views = λ u y. refl;
    registers = λ r. refl;
  }

  pub not_taken : (e : Test) (a : ℕ) → test P.range (on_regs s.reg) e ≡ false → Goes (suc (s.point t)) t s (exec P (branch e a) t p s)
  not_taken e a h = record {
    point = simp (upds, h);
    points = λ u q. simp upds;
    sizes = λ y. refl;
    rows = λ y i. refl;
    views = λ u y. refl;
    registers = λ r. refl;
  }
