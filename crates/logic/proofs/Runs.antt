-- Demand 3: a well-formed program whose obligations are derived is true to its outline in every run. One induction over the list of steps,
-- over any rules that are sound: it asks that the obligations are valid, by whatever rules they were derived.
use mathlib.Core.Path.{◌≡◌, refl, ap, sym, ◌∙◌, subst}
use mathlib.Core.Bool.{Bool, true, false, cond, not}
use mathlib.Core.List.{List, [], ◌∷◌, ◌++◌, map}
use mathlib.Core.Logic.{◌≢◌}
use Prim.Native.Nat.{ℕ, zero, suc, ◌-◌, ◌<◌}
use native.Mathlib.Omega.{arith}
use lib.Dec.{T, ltb, ltb→lt, leb→le}
use lib.ListN.{length, get_or}
use borrow.Author.Tests.{ne_eqb}
use Rattle.semantics.specs.Base.{All, upd, Within, below, up_to}
use Rattle.semantics.specs.Formula.{Formula, Test, Assertion, Formula.both_a, Formula.holds}
use Rattle.semantics.specs.Names.{names, only, is_reg, startless}
use Rattle.semantics.specs.Eval.{test, on_regs}
use Rattle.semantics.specs.Replace.{Note}
use Rattle.semantics.specs.Machine.{State, Program, Access, Access.none, Access.load, Access.write, Mode.store, Mode.swap, Mode.exchange, Mode.fetch_add, Instr, Instr.act, Instr.branch, Start, Step, with_point, exec, allowed, instr_at, permitted, step, run}
use Rattle.semantics.specs.Truth.{True}
use Rattle.logic.specs.Statement.{Statement, implies, triple, pair, is_pair, first, taking}
use Rattle.logic.specs.Obligations
use Rattle.semantics.specs.EveryRun.{Outline, Holds, EveryRun}
use Rattle.logic.specs.Obligations.{Obligation, flat, own, acting, instructed, asserted, assertions, starts, steps, interferences, obligations, wants}
use Rattle.logic.specs.Claims.{Claim, NeverBoth, threads_in, impossible, claims}
use Rattle.logic.specs.WellFormed.{proper, WellFormed}
use Rattle.logic.specs.Derivation.{Derived, by_rule, Proved}
use Rattle.semantics.proofs.Base.{by_word, upds, and_left, and_right, and_both, is_true, All-left, All-right}
use Rattle.semantics.proofs.Cuts.{All-map}
use Rattle.logic.proofs.Agreement.{keep, agree_refl, only_any}
use Rattle.semantics.proofs.Invariant.{Wf, start_wf}
use Rattle.semantics.proofs.Halves.{touch, all_notes, pick, finish}
use Rattle.logic.proofs.Arrived.{pick_moved, triple_moved}
use Rattle.logic.proofs.Steps.{may-pick, exec_halves}
use Rattle.logic.proofs.Sound.{Valid, ValidTriple, good, first_alone, finish_wf, sound}

-- what is derived is valid
all_of : (Q : Statement → Type 0) (d : Statement) (ps : List Statement) → ((i : ℕ) → i < length ps → Q (get_or ps i d)) → All Q ps
all_of Q d [] h = tt
all_of Q d (p ∷ ps) h = (h 0 (omega arith), all_of Q d ps (λ i b. h (suc i) (omega arith)))

module _ (P : Program) (ok : (t k : ℕ) → Within P.threads t → suc k < P.points t → T (proper P (P.points t) (P.code t k))) where
  pub derived_valid : {s : Statement} → Derived P s → Valid P s
  derived_valid (by_rule {n = n} {ps = ps} {s = s} d a f) = sound P ok n s ps d a (all_of (Valid P) s ps (λ i b. derived_valid (f i b)))

-- of an instruction that is no pair the triple, of a pair the statement about the whole
taken_triple : (P : Program) (t k : ℕ) (c : Instr) → P.code t k ≡ c → (a b : Assertion) → Valid P (taking t k c a b) → ValidTriple P t c a b
taken_triple P t k c e a b = go (is_pair c) refl
  where
    go : (p : Bool) → is_pair c ≡ p → Valid P (elim p [ true ↦ pair t k a b | false ↦ triple t k a b ]) → ValidTriple P t c a b
    go true q d = subst (λ (i : Instr). ValidTriple P t i a b) e d
    go false q d = subst (λ (i : Instr). ValidTriple P t i a b)
        (ap first e ∙ first_alone c (subst (λ (p : Bool). T (not p)) (sym q) tt)) d

-- members of the list of obligations
flat_in : {A B : Type 0} (Q : B → Type 0) (f : A → List B) (l : List A) → All Q (flat f l) → All (λ a. All Q (f a)) l
flat_in Q f [] h = tt
flat_in Q f (a ∷ l) h = (All-left Q (f a) (flat f l) h, flat_in Q f l (All-right Q (f a) (flat f l) h))

map_in : {A B : Type 0} (Q : B → Type 0) (f : A → B) (l : List A) → All Q (map f l) → All (λ a. Q (f a)) l
map_in Q f [] h = tt
map_in Q f (a ∷ l) h = (h.0, map_in Q f l h.1)

pub below_in : (Q : ℕ → Type 0) (n : ℕ) → All Q (below n) → (k : ℕ) → k < n → Q k
below_in Q zero h k b = absurd (omega arith)
below_in Q (suc n) h k b =
    by_word n (λ k. k < suc n → Q k) (λ b. (All-right Q (below n) (n ∷ []) h).0)
    (λ k q b. below_in Q n (All-left Q (below n) (n ∷ []) h) k (omega arith)) k b

pub up_in : (Q : ℕ → Type 0) (n : ℕ) → All Q (up_to n) → (k : ℕ) → Within n k → Q k
up_in Q n h zero w = absurd (omega (arith, w.0))
up_in Q n h (suc k) w = below_in (λ k. Q (suc k)) n (map_in Q suc (below n) h) k (omega (arith, w.1))

module _ (P : Program) (Q : Obligation → Type 0) (h : All Q (obligations P)) where
  -- class 1; 2 and 3; 4
  each_start : (t : ℕ) → Within P.threads t → Q (Obligations.start t)
  each_start = up_in (λ t. Q (Obligations.start t)) P.threads
      (map_in Q Obligations.start (up_to P.threads) (All-left Q (starts P) (steps P ++ interferences P) h))

  each_step : (t k : ℕ) → Within P.threads t → suc k < P.points t → All Q (own P t k (P.code t k))
  each_step t k w b =
      below_in (λ k. All Q (own P t k (P.code t k))) (P.points t - 1)
      (flat_in Q (λ k. own P t k (P.code t k)) (instructed P t)
      (up_in (λ t. All Q (flat (λ k. own P t k (P.code t k)) (instructed P t))) P.threads
      (flat_in Q (λ t. flat (λ k. own P t k (P.code t k)) (instructed P t)) (up_to P.threads)
      (All-left Q (steps P) (interferences P) (All-right Q (starts P) (steps P ++ interferences P) h))) t w)) k (omega arith)

  differ : (u t k : ℕ) → u ≢ t → All Q (assertions P t k u) → All Q (flat (λ j. acting P u j t k (P.code t k)) (below (asserted P u)))
  differ u t k q g =
      subst
      (λ (z : Bool). All Q (elim z as (λ y. List Obligation)
      [ true ↦ [] | false ↦ flat (λ j. acting P u j t k (P.code t k)) (below (asserted P u)) ]))
      (ne_eqb t u (λ (e : t ≡ u). q (sym e))) g

  each_other : (u j t k : ℕ) → Within P.threads u → j < P.points u → Within P.threads t → suc k < P.points t → u ≢ t
      → All Q (acting P u j t k (P.code t k))
  each_other u j t k w b v c q =
      below_in (λ j. All Q (acting P u j t k (P.code t k))) (asserted P u)
      (flat_in Q (λ j. acting P u j t k (P.code t k)) (below (asserted P u)) (differ u t k q
      (up_in (λ u. All Q (assertions P t k u)) P.threads
      (flat_in Q (λ u. assertions P t k u) (up_to P.threads)
      (below_in (λ k. All Q (flat (λ u. assertions P t k u) (up_to P.threads))) (P.points t - 1)
      (flat_in Q (λ k. flat (λ u. assertions P t k u) (up_to P.threads)) (instructed P t)
      (up_in (λ t. All Q (flat (λ k. flat (λ u. assertions P t k u) (up_to P.threads)) (instructed P t))) P.threads
      (flat_in Q (λ t. flat (λ k. flat (λ u. assertions P t k u) (up_to P.threads)) (instructed P t)) (up_to P.threads)
      (All-right Q (steps P) (interferences P) (All-right Q (starts P) (steps P ++ interferences P) h))) t v)) k (omega arith))) u w))) j
      (omega arith)

-- class 4 has every action, of each kind
every_action : (P : Program) (u j t k : ℕ) (A : Access) (ns : List Note)
    → acting P u j t k (act A ns) ≡ Obligations.interference u j t k ∷ []
every_action P u j t k none ns = refl
every_action P u j t k (load a r x) ns = refl
every_action P u j t k (write m x f) ns = refl

-- what a run keeps, whatever state it is from
pub record Inv (P : Program) (O : Outline) (s : State) : Type 0 where
  pub wf : Wf P s
  pub point : (t : ℕ) → Within P.threads t → s.point t < P.points t
  pub true_there : Holds P O s

-- the statement of each obligation is valid
abbrev pub AllValid : Program → Outline → Type 0
AllValid P O = All (λ o. Valid P (wants P O o)) (obligations P)

module _ (P : Program) (O : Outline) (W : WellFormed P O) (D : AllValid P O) where
  abbrev Goal : Obligation → Type 0
  Goal o = Valid P (wants P O o)

  -- the points change, and nothing else
  moved_on : (s : State) (t k : ℕ) (a : Assertion) → T (startless a) → True P s a → True P (with_point s t k) a
  moved_on s t k a z = keep P (λ n. true) s (with_point s t k) (λ u i c h. h) agree_refl a z (only_any (names a))

  module _ (s : State) (inv : Inv P O s) (t : ℕ) (t_in : Within P.threads t) (more : suc (s.point t) < P.points t) where
    no_start_at : (u : ℕ) → Within P.threads u → T (startless (O u (s.point u)))
    no_start_at u b = W.no_start u (s.point u) b (inv.point u b)

    module _ (A : Access) (ns : List Note) (e : instr_at P s t ≡ act A ns) (p : ℕ) (may : T (allowed (act A ns) t p s)) where
      its_proper : T (proper P (P.points t) (act A ns))
      its_proper = subst (λ (i : Instr). T (proper P (P.points t) i)) e (W.instructions t (s.point t) t_in more)

      halves : finish P (touch A) (all_notes A ns) t p (pick (touch A) t p s) ≡ exec P (act A ns) t p s
      halves = exec_halves P t p s inv.wf ns (P.points t) A its_proper may

      -- what is valid of the instruction takes what is true before to what is true after
      moves_on : (a b : Assertion) → ValidTriple P t (act A ns) a b → T (startless a) → True P s a → True P (exec P (act A ns) t p s) b
      moves_on a b v z h =
          subst (λ (s : State). True P s b) halves
          (triple_moved inv.wf t p (touch A) (all_notes A ns) a b v z (may-pick A ns t p s may) h)

      -- so does what its statement says
      goes_on : (a b : Assertion) → Valid P (taking t (s.point t) (act A ns) a b) → T (startless a) → True P s a
          → True P (exec P (act A ns) t p s) b
      goes_on a b d = moves_on a b (taken_triple P t (s.point t) (act A ns) e a b d)

      acted_wf : Wf P (exec P (act A ns) t p s)
      acted_wf =
          let k = pick_moved inv.wf t p (touch A) (may-pick A ns t p s may) in
          subst (Wf P) halves (finish_wf P t (touch A) (all_notes A ns) (good P (P.points t) A ns its_proper) (pick (touch A) t p s)
          k.wf p k.arrived)

      -- only the acting thread's point changes, to the next one
      acted_points : (exec P (act A ns) t p s).point ≡ upd s.point t (suc (s.point t))
      acted_points = go A
        where
          go : (A : Access) → (exec P (act A ns) t p s).point ≡ upd s.point t (suc (s.point t))
          go none = refl
          go (load a r x) = refl
          go (write (store b) x f) = refl
          go (write swap x f) = refl
          go (write (exchange r) x f) = refl
          go (write (fetch_add r) x f) = refl

      acted : Inv P O (exec P (act A ns) t p s)
      acted = record {
        wf = acted_wf;
        point = λ u b. subst (λ (z : ℕ → ℕ). z u < P.points u) (sym acted_points)
            (by_word t (λ u. Within P.threads u → upd s.point t (suc (s.point t)) u < P.points u) (λ b. simp upds more)
            (λ u n b. simp upds (inv.point u b)) u b);
        true_there = λ u b. subst (λ (z : ℕ → ℕ). True P (exec P (act A ns) t p s) (O u (z u))) (sym acted_points)
            (by_word t (λ u. Within P.threads u → True P (exec P (act A ns) t p s) (O u (upd s.point t (suc (s.point t)) u)))
            (λ b. simp upds (goes_on (O t (s.point t)) (O t (suc (s.point t))) next (no_start_at t b) (inv.true_there t b)))
            (λ u n b. simp upds (goes_on (both_a (O u (s.point u)) (O t (s.point t))) (O u (s.point u)) (kept u b n)
            (and_both (startless (O u (s.point u))) (startless (O t (s.point t))) (no_start_at u b) (no_start_at t t_in))
            (inv.true_there u b, inv.true_there t t_in)))
            u b);
      }
        where
          next : Valid P (taking t (s.point t) (act A ns) (O t (s.point t)) (O t (suc (s.point t))))
          next = (rw e at (rw e at (each_step P Goal D t (s.point t) t_in more))).0

          kept : (u : ℕ) → Within P.threads u → u ≢ t
              → Valid P (taking t (s.point t) (act A ns) (both_a (O u (s.point u)) (O t (s.point t))) (O u (s.point u)))
          kept u b n =
              let all = rw e at (each_other P Goal D u (s.point u) t (s.point t) b (inv.point u b) t_in more n) in
              rw e at (subst (All Goal) (every_action P u (s.point u) t (s.point t) A ns) all).0

    -- a branch that goes to the point k
    goes : (k : ℕ) → k < P.points t → True P s (O t k) → Inv P O (with_point s t k)
    goes k b h = record {
      wf = record {
        outer = inv.wf.outer;
        view_in = inv.wf.view_in;
        stored_in = inv.wf.stored_in;
        own = inv.wf.own;
        small = inv.wf.small;
        reg_small = inv.wf.reg_small;
      };
      point = by_word t _ (λ c. simp upds b) (λ u n c. simp upds (inv.point u c));
      true_there = by_word t _ (λ c. simp upds (moved_on s t k (O t k) (W.no_start t k c b) h))
          (λ u n c. simp upds (moved_on s t k (O u (s.point u)) (no_start_at u c) (inv.true_there u c)));
    }

    branched : (e : Test) (a : ℕ) → instr_at P s t ≡ branch e a → (p : ℕ) → Inv P O (exec P (branch e a) t p s)
    branched e a q p = go (test P.range (on_regs s.reg) e) refl
      where
        obs : All Goal (own P t (s.point t) (branch e a))
        obs = subst (λ (i : Instr). All Goal (own P t (s.point t) i)) q (each_step P Goal D t (s.point t) t_in more)

        target : a < P.points t
        target = ltb→lt a (P.points t) (and_right (only is_reg e) (ltb a (P.points t))
            (subst (λ (i : Instr). T (proper P (P.points t) i)) q (W.instructions t (s.point t) t_in more)))

        to_target : Valid P (implies (both_a (O t (s.point t)) (holds e)) (O t a))
        to_target = rw q at obs.0

        to_next : Valid P (implies (both_a (O t (s.point t)) (holds (Formula.not e))) (O t (suc (s.point t))))
        to_next = rw q at obs.1.0

        go : (b : Bool) → test P.range (on_regs s.reg) e ≡ b → Inv P O (with_point s t (cond b a (suc (s.point t))))
        go true z = goes a target (to_target s inv.wf (inv.true_there t t_in, is_true z))
        go false z = goes (suc (s.point t)) more (to_next s inv.wf
            (inv.true_there t t_in, subst (λ (b : Bool). T (not b)) (sym z) tt))

    stepped : (c : Instr) → instr_at P s t ≡ c → (p : ℕ) → T (allowed c t p s) → Inv P O (exec P c t p s)
    stepped (act A ns) e p may = acted A ns e p may
    stepped (branch f a) e p may = branched f a e p

  -- each step, refused or not
  step_keeps : (s : State) → Inv P O s → (m : Step) → Inv P O (step P s m)
  step_keeps s inv m = go (permitted P m s) refl
    where
      go : (b : Bool) → permitted P m s ≡ b → Inv P O (cond b (exec P (instr_at P s m.thread) m.thread m.position s) s)
      go true e =
          let ok : T (permitted P m s) = is_true e in
          let t_in : Within P.threads m.thread = (
            leb→le 1 m.thread (search (and_left, and_right)),
            leb→le m.thread P.threads (search (and_left, and_right)),
          ) in
          let more : suc (s.point m.thread) < P.points m.thread =
          ltb→lt (suc (s.point m.thread)) (P.points m.thread) (search (and_left, and_right)) in
          stepped s inv m.thread t_in more (instr_at P s m.thread) refl m.position (search (and_left, and_right))
      go false e = inv

  pub valid_keeps : (l : List Step) (s : State) → Inv P O s → Inv P O (run P s l)
  valid_keeps [] s inv = inv
  valid_keeps (m ∷ l) s inv = valid_keeps l (step P s m) (step_keeps s inv m)

  pub valid_start : (s : State) → Start P s → Inv P O s
  valid_start s st =
      let wf : Wf P s = start_wf W.start-values st in
      record {
        wf = wf;
        point = λ t b. omega (arith, st.points t, W.some_point t b);
        true_there = λ t b. rw (st.points t) (each_start P Goal D t b s wf st);
      }

  -- the theorem, of valid obligations
  pub valid_every_run : EveryRun P O
  valid_every_run = record { holds = λ s st l. (valid_keeps l s (valid_start s st)).true_there }

  -- a claim: its assertions are true of a run's state, and false together
  not_together : (lower : Bool) (a b : Assertion) → Valid P (impossible lower a b) → (s : State) → Wf P s → True P s a → True P s b → ⊥
  not_together true a b d s wf h g = d s wf (h, g)
  not_together false a b d s wf h g = d s wf (g, h)

  pub valid_never_both : (c : Claim) → threads_in P c → Valid P (claims O c) → NeverBoth P c
  valid_never_both c w d = record { never = λ s st l. go (run P s l) (valid_keeps l s (valid_start s st)) }
    where
      go : (s : State) → Inv P O s → s.point c.thread ≡ c.point → s.point c.other ≡ c.other_point → ⊥
      go s inv p q =
          not_together (ltb c.thread c.other) (O c.thread c.point) (O c.other c.other_point) d s inv.wf
          (subst (λ (k : ℕ). True P s (O c.thread k)) p (inv.true_there c.thread w.0))
          (subst (λ (k : ℕ). True P s (O c.other k)) q (inv.true_there c.other w.1))

-- ANY SET OF SOUND RULES: what is derivable by it is valid
module _ (P : Program) (O : Outline) (W : WellFormed P O) (Derivable : Statement → Type 0)
    (valid : (s : Statement) → Derivable s → Valid P s) (D : All (λ o. Derivable (wants P O o)) (obligations P)) where
  pub derivable_valid : AllValid P O
  derivable_valid = All-map (λ o. Derivable (wants P O o)) (λ o. Valid P (wants P O o)) (λ o. valid (wants P O o)) (obligations P) D

  pub every_run_by : EveryRun P O
  every_run_by = valid_every_run P O W derivable_valid

  pub never_both_by : (c : Claim) → threads_in P c → Derivable (claims O c) → NeverBoth P c
  never_both_by c w d = valid_never_both P O W derivable_valid c w (valid (claims O c) d)

-- THE PUBLISHED RULES are one such set
module _ (P : Program) (O : Outline) (W : WellFormed P O) (D : Proved P O) where
  proved_valid : AllValid P O
  proved_valid = derivable_valid P O W (Derived P) (λ s. derived_valid P W.instructions) D

  pub run_keeps : (l : List Step) (s : State) → Inv P O s → Inv P O (run P s l)
  run_keeps = valid_keeps P O W proved_valid

  pub start_inv : (s : State) → Start P s → Inv P O s
  start_inv = valid_start P O W proved_valid

-- the theorem
pub every_run : (P : Program) (O : Outline) → WellFormed P O → Proved P O → EveryRun P O
every_run P O W D = every_run_by P O W (Derived P) (λ s. derived_valid P W.instructions) D

pub never_both : (P : Program) (O : Outline) (W : WellFormed P O) (D : Proved P O) (c : Claim) → threads_in P c → Derived P (claims O c)
    → NeverBoth P c
never_both P O W D = never_both_by P O W (Derived P) (λ s. derived_valid P W.instructions) D
