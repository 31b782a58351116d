-- The ways through the loops over obligations, one law for each. A loop ends at the first obligation that is not met.
use mathlib.Core.Path.{◌≡◌, refl, ap, sym, ◌∙◌, subst}
use mathlib.Core.Bool.{Bool, true, false, cond}
use mathlib.Core.List.{List, [], ◌∷◌, ◌++◌, map}
use Prim.Native.Nat.{ℕ, zero, suc, ◌+◌, ◌-◌, ◌≤◌, ◌<◌}
use native.Mathlib.Numerals.{add-one}
use native.Mathlib.Omega.{arith}
use lib.Dec.{eqb}
use borrow.Author.Tests.{eqb-true, eqb-false, eq-eqb, ne_eqb}
use Rattle.std.specs.Prelude.{Ok, Err}
use Rattle.limits.proofs.BranchTests.{tests}
use Rattle.logic.specs.Opcode as Opcode
use Rattle.semantics.specs.Machine.{Program, Instr, Instr.act, Instr.branch}
use Rattle.logic.specs.Statement.{is_branch}
use Rattle.logic.specs.Obligations as Logic
use Rattle.logic.specs.Obligations.{Obligation.start, Obligation.step, Obligation.taken, Obligation.interference, flat, own, acting, instructed, assertions, starts, steps, interferences, obligations}
use Rattle.semantics.specs.Base.{below, up_to}
use Rattle.image_frames.specs.Records.{bodies}
use Rattle.image_header.specs.declared.sizes.Sizes.{Sizes}
use Rattle.image_header.specs.declared.instruction.Instruction.{Instruction}
use Rattle.image_header.specs.Thread.{last_point}
use Rattle.image_bodies.specs.RecordPlaces.{thread_body, instruction_of}
use Rattle.image_meaning.specs.Program.{instr, point_count, program_of}
use Rattle.image_meaning.proofs.Sums.{flat_append, flat_map}
use Rattle.image_meaning.proofs.Instructions.{branch_is}
use Rattle.rules_justified.specs.declared.marks.Marks.{Marks}
use Rattle.verdict_record.specs.declared.obligation.Obligation.TheVariants.{Start, Step, Taken, Interference}
use Rattle.obligations.specs.declared.judgement.Failure.{Failure}
use Rattle.verdict_record.specs.ObligationPlace.{obligation}
use Rattle.obligations.specs.Judgement.{Judgement, next, judge_one, judged, judge_at}
use Rattle.obligations.specs.JudgementOrder.{program, starts_to, own_at, own_to, steps_to, acting_at, asserted_to, assertions_at, assertions_to, actions_to, interferences_to}

flat_single : {A B : Type 0} (f : A → B) (l : List A) → map f l ≡ flat (λ a. f a ∷ []) l
flat_single f [] = refl
flat_single f (a ∷ l) = ap (λ m. f a ∷ m) (flat_single f l)

module _ (s : List ℕ) (z : Sizes) (m : Marks) where
  abbrev P : Program
  P = program s z

  judged_append : (os ps : List Logic.Obligation) (r : Judgement) → judged s z m (os ++ ps) r ≡ judged s z m ps (judged s z m os r)
  unfolding judged
  judged_append [] ps r = refl
  judged_append (o ∷ os) ps r = judged_append os ps (next s z m (obligation o) r)

  judged_last : (os ps : List Logic.Obligation) (r : Judgement) → judged s z m (os ++ (ps ++ [])) r ≡ judged s z m ps (judged s z m os r)
  unfolding judged
  judged_last os ps r = judged_append os (ps ++ []) r ∙ judged_append ps [] (judged s z m os r)

  -- one number more
  judged_below : (f : ℕ → List Logic.Obligation) (n : ℕ) (r : Judgement)
      → judged s z m (flat f (below (n + 1))) r ≡ judged s z m (f n) (judged s z m (flat f (below n)) r)
  judged_below f n r = rw (add-one n, flat_append f (below n) (n ∷ [])) (judged_last (flat f (below n)) (f n) r)

  judged_up_to : (f : ℕ → List Logic.Obligation) (n : ℕ) (r : Judgement)
      → judged s z m (flat f (up_to (n + 1))) r ≡ judged s z m (f (n + 1)) (judged s z m (flat f (up_to n)) r)
  judged_up_to f n r =
      rw (flat_map f suc (below (n + 1)), flat_map f suc (below n), add-one n)
      (subst (λ (k : ℕ). judged s z m (flat (λ a. f (suc a)) (below k)) r ≡ judged s z m (f (suc n))
      (judged s z m (flat (λ a. f (suc a)) (below n)) r)) (add-one n) (judged_below (λ a. f (suc a)) n r))

  -- the first that is not met stays
  judged_err : (os : List Logic.Obligation) (f : Failure) → judged s z m os (Err f) ≡ Err f
  unfolding judged next
  judged_err [] f = refl
  judged_err (o ∷ os) f = judged_err os f

  module _ (g : ℕ → List Logic.Obligation) (r : Judgement) (f : Failure) where
    below_fails : (k n : ℕ) → k ≤ n → judged s z m (flat g (below k)) r ≡ Err f → judged s z m (flat g (below n)) r ≡ Err f
    below_fails k zero h e = let q : k ≡ 0 = omega arith in rw q at e
    below_fails k (suc n) h e = go (eqb k (suc n)) refl (λ d. below_fails k n d e)
      where
        go : (b : Bool) → eqb k (suc n) ≡ b → (k ≤ n → judged s z m (flat g (below n)) r ≡ Err f)
            → judged s z m (flat g (below (suc n))) r ≡ Err f
        go true q ih = subst (λ (i : ℕ). judged s z m (flat g (below i)) r ≡ Err f) (eqb-true k (suc n) q) e
        go false q ih =
            let c = eqb-false k (suc n) q in
            let d : k ≤ n = omega arith in
            let w : judged s z m (flat g (below (suc n))) r ≡ judged s z m (g n) (judged s z m (flat g (below n)) r) =
            rw add-one at (judged_below g n r) in
            w ∙ ap (judged s z m (g n)) (ih d) ∙ judged_err (g n) f

    up_fails : (k n : ℕ) → k ≤ n → judged s z m (flat g (up_to k)) r ≡ Err f → judged s z m (flat g (up_to n)) r ≡ Err f
    up_fails k zero h e = let q : k ≡ 0 = omega arith in rw q at e
    up_fails k (suc n) h e = go (eqb k (suc n)) refl (λ d. up_fails k n d e)
      where
        go : (b : Bool) → eqb k (suc n) ≡ b → (k ≤ n → judged s z m (flat g (up_to n)) r ≡ Err f)
            → judged s z m (flat g (up_to (suc n))) r ≡ Err f
        go true q ih = subst (λ (i : ℕ). judged s z m (flat g (up_to i)) r ≡ Err f) (eqb-true k (suc n) q) e
        go false q ih =
            let c = eqb-false k (suc n) q in
            let d : k ≤ n = omega arith in
            let w : judged s z m (flat g (up_to (suc n))) r ≡ judged s z m (g (suc n)) (judged s z m (flat g (up_to n)) r) =
            rw add-one at (judged_up_to g n r) in
            w ∙ ap (judged s z m (g (suc n))) (ih d) ∙ judged_err (g (suc n)) f

  -- one group more: with c obligations met before it, it gives x
  module _ (g : ℕ → List Logic.Obligation) (r x : Judgement) (c : ℕ) where
    below_more : (k n : ℕ) → k + 1 ≡ n → Ok c ≡ judged s z m (flat g (below k)) r → x ≡ judged s z m (g k) (Ok c)
        → x ≡ judged s z m (flat g (below n)) r
    below_more k n a e d = rw (← a, judged_below g k r, ← e) d

    up_more : (k t n : ℕ) → k + 1 ≡ t → n ≡ t → Ok c ≡ judged s z m (flat g (up_to k)) r → x ≡ judged s z m (g t) (Ok c)
        → x ≡ judged s z m (flat g (up_to n)) r
    up_more k t n a b e d = rw (b, ← a, judged_up_to g k r, ← e) (rw (← a) at d)

  module _ (r x : Judgement) (c : ℕ) where
    -- starts
    as_starts : (n : ℕ) → starts_to s z m n r ≡ judged s z m (flat (λ t. start t ∷ []) (up_to n)) r
    unfolding starts_to
    as_starts n = ap (λ (os : List Logic.Obligation). judged s z m os r) (flat_single start (up_to n))

    one_start : (t : ℕ) → x ≡ judge_one s z m (Start t) c → x ≡ judged s z m (start t ∷ []) (Ok c)
    unfolding judged next
    one_start t e = e

    module _ (k t : ℕ) (a : k + 1 ≡ t) (e : Ok c ≡ starts_to s z m k r) (d : x ≡ judge_one s z m (Start t) c) where
      starts_step : (n : ℕ) → n ≡ t → x ≡ starts_to s z m n r
      starts_step n b = up_more (λ t. start t ∷ []) r x c k t n a b (e ∙ as_starts k) (one_start t d) ∙ sym (as_starts n)

      pub starts_more : (n w : ℕ) → n ≡ t → x ≡ Ok w → Ok w ≡ starts_to s z m n r
      starts_more n w b h = sym h ∙ starts_step n b

      pub starts_fail : (f : Failure) (y : Judgement) → x ≡ Err f → t ≤ z.threads → y ≡ Err f → y ≡ starts_to s z m z.threads r
      starts_fail f y h q v =
          v ∙ sym (up_fails (λ t. start t ∷ []) r f t z.threads q (sym (as_starts t) ∙ sym (starts_step t refl) ∙ h))
          ∙ sym (as_starts z.threads)

  pub starts_none : (r : Judgement) → r ≡ starts_to s z m 0 r
  unfolding starts_to judged
  starts_none r = refl

  pub starts_begun : (c : ℕ) (r : Judgement) → r ≡ Ok c → Ok c ≡ starts_to s z m 0 r
  starts_begun c r e = sym e ∙ starts_none r

  pub starts_stay : (n : ℕ) (f : Failure) (r y : Judgement) → r ≡ Err f → y ≡ Err f → y ≡ starts_to s z m n r
  unfolding starts_to
  starts_stay n f r y e v = v ∙ sym (judged_err _ f) ∙ ap (λ (x : Judgement). starts_to s z m n x) (sym e)

  pub starts_all : (n : ℕ) (r q : Judgement) → n ≡ z.threads → q ≡ starts_to s z m n r → q ≡ starts_to s z m z.threads r
  starts_all n r q e d = rw e at d

  -- the obligations of an instruction

  module _ (t k : ℕ) (i : Instruction) (h : i ≡ instruction_of z (bodies s) t k) (c : ℕ) where
    own_is : (j : Instr) → own P t k j ≡ cond (is_branch j) (taken t k ∷ step t k ∷ []) (step t k ∷ [])
    own_is (act A ns) = refl
    own_is (branch e a) = refl

    own_split : own_at s z m t k (Ok c) ≡ judged s z m (cond (eqb i.operation Opcode.branch) (taken t k ∷ step t k ∷ []) (step t k ∷ [])) (Ok c)
    unfolding own_at
    own_split = rw (own_is (instr (bodies s) (instruction_of z (bodies s) t k)), branch_is (bodies s) (instruction_of z (bodies s) t k), ← h)

    module _ (e : i.operation ≡ Opcode.branch) (x : Judgement) (d : x ≡ judge_one s z m (Taken t k) c) where
      pub own_branch : (w : ℕ) (p : Judgement) → x ≡ Ok w → p ≡ judge_one s z m (Step t k) w → p ≡ own_at s z m t k (Ok c)
      unfolding judged next
      own_branch w p g v = rw (own_split, eq-eqb _ _ e, ← d, g) v

      pub own_taken : (f : Failure) → x ≡ Err f → Err f ≡ own_at s z m t k (Ok c)
      unfolding judged next
      own_taken f g = rw (own_split, eq-eqb _ _ e, ← d, g)

    pub own_act : (p : Judgement) → (i.operation ≡ Opcode.branch → ⊥) → p ≡ judge_one s z m (Step t k) c → p ≡ own_at s z m t k (Ok c)
    unfolding judged next
    own_act p e d = rw (own_split, ne_eqb _ _ e) d

    module _ (u j : ℕ) where
      acting_is : (a : Instr) → acting P u j t k a ≡ cond (is_branch a) [] (interference u j t k ∷ [])
      acting_is (act A ns) = refl
      acting_is (branch e a) = refl

      acting_split : acting_at s z m u j t k (Ok c) ≡ judged s z m (cond (eqb i.operation Opcode.branch) [] (interference u j t k ∷ [])) (Ok c)
      unfolding acting_at
      acting_split =
          rw (acting_is (instr (bodies s) (instruction_of z (bodies s) t k)), branch_is (bodies s) (instruction_of z (bodies s) t k), ← h)

      pub acting_branch : i.operation ≡ Opcode.branch → Ok c ≡ acting_at s z m u j t k (Ok c)
      unfolding judged
      acting_branch e = rw (acting_split, eq-eqb _ _ e)

      pub acting_act : (p : Judgement) → (i.operation ≡ Opcode.branch → ⊥) → p ≡ judge_one s z m (Interference u j t k) c
          → p ≡ acting_at s z m u j t k (Ok c)
      unfolding judged next
      acting_act p e d = rw (acting_split, ne_eqb _ _ e) d

  -- steps

  module _ (t : ℕ) where
    abbrev owns : ℕ → List Logic.Obligation
    owns k = own P t k (P.code t k)

    pub own_none : (r : Judgement) → r ≡ own_to s z m t 0 r
    unfolding own_to judged
    own_none r = refl

    pub own_all : (n : ℕ) (r q : Judgement) → n ≡ last_point (thread_body z (bodies s) t) → q ≡ own_to s z m t n r
        → q ≡ own_to s z m t (last_point (thread_body z (bodies s) t)) r
    own_all n r q e d = rw e at d

    module _ (r x : Judgement) (c k : ℕ) (e : Ok c ≡ own_to s z m t k r) (d : x ≡ own_at s z m t k (Ok c)) where
      pub own_more : (w : ℕ) → x ≡ Ok w → Ok w ≡ own_to s z m t (k + 1) r
      unfolding own_to own_at
      own_more w h = sym h ∙ below_more owns r x c k (k + 1) refl e d

      pub own_fail : (n : ℕ) (f : Failure) (y : Judgement) → x ≡ Err f → k < n → n ≡ last_point (thread_body z (bodies s) t) → y ≡ Err f
          → y ≡ own_to s z m t (last_point (thread_body z (bodies s) t)) r
      unfolding own_to own_at
      own_fail n f y h g q v =
          v ∙ sym (below_fails owns r f (k + 1) (last_point (thread_body z (bodies s) t)) (omega arith)
          (sym (below_more owns r x c k (k + 1) refl e d) ∙ h))

  abbrev threads_own : ℕ → List Logic.Obligation
  threads_own t = flat (λ k. own P t k (P.code t k)) (instructed P t)

  one_thread : (t c : ℕ) (x : Judgement) → x ≡ own_to s z m t (last_point (thread_body z (bodies s) t)) (Ok c)
      → x ≡ judged s z m (threads_own t) (Ok c)
  unfolding own_to point_count
  one_thread t c x d =
      let e : last_point (thread_body z (bodies s) t) + 1 - 1 ≡ last_point (thread_body z (bodies s) t) = omega arith in rw e d

  pub steps_none : (r : Judgement) → r ≡ steps_to s z m 0 r
  unfolding steps_to judged
  steps_none r = refl

  pub steps_begun : (c : ℕ) (r : Judgement) → r ≡ Ok c → Ok c ≡ steps_to s z m 0 r
  steps_begun c r e = sym e ∙ steps_none r

  pub steps_stay : (n : ℕ) (f : Failure) (r y : Judgement) → r ≡ Err f → y ≡ Err f → y ≡ steps_to s z m n r
  unfolding steps_to
  steps_stay n f r y e v = v ∙ sym (judged_err _ f) ∙ ap (λ (x : Judgement). steps_to s z m n x) (sym e)

  pub steps_all : (n : ℕ) (r q : Judgement) → n ≡ z.threads → q ≡ steps_to s z m n r → q ≡ steps_to s z m z.threads r
  steps_all n r q e d = rw e at d

  module _ (r x : Judgement) (c k t : ℕ) (a : k + 1 ≡ t) (e : Ok c ≡ steps_to s z m k r)
      (d : x ≡ own_to s z m t (last_point (thread_body z (bodies s) t)) (Ok c)) where
    pub steps_more : (n w : ℕ) → n ≡ t → x ≡ Ok w → Ok w ≡ steps_to s z m n r
    unfolding steps_to
    steps_more n w b h = sym h ∙ up_more threads_own r x c k t n a b e (one_thread t c x d)

    pub steps_fail : (f : Failure) (y : Judgement) → x ≡ Err f → t ≤ z.threads → y ≡ Err f → y ≡ steps_to s z m z.threads r
    unfolding steps_to
    steps_fail f y h q v =
        v ∙ sym (up_fails threads_own r f t z.threads q (sym (up_more threads_own r x c k t t a refl e (one_thread t c x d)) ∙ h))

  -- interferences

  module _ (t k u : ℕ) where
    abbrev acts : ℕ → List Logic.Obligation
    acts j = acting P u j t k (P.code t k)

    pub assertions_self : (r : Judgement) → t ≡ u → r ≡ assertions_at s z m t k u r
    unfolding assertions_at judged
    assertions_self r e = rw (eq-eqb _ _ e, assertions)

    pub asserted_none : (r : Judgement) → r ≡ asserted_to s z m t k u 0 r
    unfolding asserted_to judged
    asserted_none r = refl

    pub asserted_all : (j n : ℕ) (r q : Judgement) → (t ≡ u → ⊥) → n ≡ last_point (thread_body z (bodies s) u) → j ≡ n + 1
        → q ≡ asserted_to s z m t k u j r
        → q ≡ assertions_at s z m t k u r
    unfolding assertions_at asserted_to point_count
    asserted_all j n r q f e h d =
        let c : j ≡ last_point (thread_body z (bodies s) u) + 1 = omega arith in
        rw (ne_eqb _ _ f, assertions) (rw c at d)

    module _ (r x : Judgement) (c j : ℕ) (e : Ok c ≡ asserted_to s z m t k u j r) (d : x ≡ acting_at s z m u j t k (Ok c)) where
      asserted_step : x ≡ asserted_to s z m t k u (j + 1) r
      unfolding asserted_to acting_at
      asserted_step = below_more acts r x c j (j + 1) refl e d

      pub asserted_more : (w : ℕ) → x ≡ Ok w → Ok w ≡ asserted_to s z m t k u (j + 1) r
      asserted_more w h = sym h ∙ asserted_step

      module _ (o : t ≡ u → ⊥) (n : ℕ) (q : n ≡ last_point (thread_body z (bodies s) u)) where
        pub asserted_last : (w : ℕ) → x ≡ Ok w → j ≡ n → Ok w ≡ assertions_at s z m t k u r
        asserted_last w h b = let g : j + 1 ≡ n + 1 = omega arith in asserted_all (j + 1) n r (Ok w) o q g (asserted_more w h)

        pub asserted_fail : (f : Failure) (y : Judgement) → x ≡ Err f → j ≤ n → y ≡ Err f → y ≡ assertions_at s z m t k u r
        unfolding asserted_to
        asserted_fail f y h b v =
            v ∙ asserted_all (n + 1) n r (Err f) o q refl (sym (below_fails acts r f (j + 1) (n + 1) (omega arith) (sym asserted_step ∙ h)))

  module _ (t k : ℕ) where
    abbrev asserts : ℕ → List Logic.Obligation
    asserts u = assertions P t k u

    pub assertions_none : (r : Judgement) → r ≡ assertions_to s z m t k 0 r
    unfolding assertions_to judged
    assertions_none r = refl

    pub assertions_all : (n : ℕ) (r q : Judgement) → n ≡ z.threads → q ≡ assertions_to s z m t k n r → q ≡ assertions_to s z m t k z.threads r
    assertions_all n r q e d = rw e at d

    module _ (r x : Judgement) (c i u : ℕ) (a : i + 1 ≡ u) (e : Ok c ≡ assertions_to s z m t k i r)
        (d : x ≡ assertions_at s z m t k u (Ok c)) where
      pub assertions_more : (n w : ℕ) → n ≡ u → x ≡ Ok w → Ok w ≡ assertions_to s z m t k n r
      unfolding assertions_to assertions_at
      assertions_more n w b h = sym h ∙ up_more asserts r x c i u n a b e d

      pub assertions_fail : (f : Failure) (y : Judgement) → x ≡ Err f → u ≤ z.threads → y ≡ Err f → y ≡ assertions_to s z m t k z.threads r
      unfolding assertions_to assertions_at
      assertions_fail f y h q v = v ∙ sym (up_fails asserts r f u z.threads q (sym (up_more asserts r x c i u u a refl e d) ∙ h))

  module _ (t : ℕ) where
    abbrev actions : ℕ → List Logic.Obligation
    actions k = flat (λ u. assertions P t k u) (up_to z.threads)

    pub actions_none : (r : Judgement) → r ≡ actions_to s z m t 0 r
    unfolding actions_to judged
    actions_none r = refl

    pub actions_all : (n : ℕ) (r q : Judgement) → n ≡ last_point (thread_body z (bodies s) t) → q ≡ actions_to s z m t n r
        → q ≡ actions_to s z m t (last_point (thread_body z (bodies s) t)) r
    actions_all n r q e d = rw e at d

    module _ (r x : Judgement) (c k : ℕ) (e : Ok c ≡ actions_to s z m t k r) (d : x ≡ assertions_to s z m t k z.threads (Ok c)) where
      pub actions_more : (w : ℕ) → x ≡ Ok w → Ok w ≡ actions_to s z m t (k + 1) r
      unfolding actions_to assertions_to
      actions_more w h = sym h ∙ below_more actions r x c k (k + 1) refl e d

      pub actions_fail : (n : ℕ) (f : Failure) (y : Judgement) → x ≡ Err f → k < n → n ≡ last_point (thread_body z (bodies s) t) → y ≡ Err f
          → y ≡ actions_to s z m t (last_point (thread_body z (bodies s) t)) r
      unfolding actions_to assertions_to
      actions_fail n f y h g q v =
          v ∙ sym (below_fails actions r f (k + 1) (last_point (thread_body z (bodies s) t)) (omega arith)
          (sym (below_more actions r x c k (k + 1) refl e d) ∙ h))

  abbrev interfering : ℕ → List Logic.Obligation
  interfering t = flat (λ k. flat (λ u. assertions P t k u) (up_to P.threads)) (instructed P t)

  one_actor : (t c : ℕ) (x : Judgement) → x ≡ actions_to s z m t (last_point (thread_body z (bodies s) t)) (Ok c)
      → x ≡ judged s z m (interfering t) (Ok c)
  unfolding actions_to point_count
  one_actor t c x d =
      let e : last_point (thread_body z (bodies s) t) + 1 - 1 ≡ last_point (thread_body z (bodies s) t) = omega arith in rw e d

  pub interferences_none : (r : Judgement) → r ≡ interferences_to s z m 0 r
  unfolding interferences_to judged
  interferences_none r = refl

  pub interferences_begun : (c : ℕ) (r : Judgement) → r ≡ Ok c → Ok c ≡ interferences_to s z m 0 r
  interferences_begun c r e = sym e ∙ interferences_none r

  pub interferences_stay : (n : ℕ) (f : Failure) (r y : Judgement) → r ≡ Err f → y ≡ Err f → y ≡ interferences_to s z m n r
  unfolding interferences_to
  interferences_stay n f r y e v = v ∙ sym (judged_err _ f) ∙ ap (λ (x : Judgement). interferences_to s z m n x) (sym e)

  pub interferences_all : (n : ℕ) (r q : Judgement) → n ≡ z.threads → q ≡ interferences_to s z m n r
      → q ≡ interferences_to s z m z.threads r
  interferences_all n r q e d = rw e at d

  module _ (r x : Judgement) (c k t : ℕ) (a : k + 1 ≡ t) (e : Ok c ≡ interferences_to s z m k r)
      (d : x ≡ actions_to s z m t (last_point (thread_body z (bodies s) t)) (Ok c)) where
    pub interferences_more : (n w : ℕ) → n ≡ t → x ≡ Ok w → Ok w ≡ interferences_to s z m n r
    unfolding interferences_to
    interferences_more n w b h = sym h ∙ up_more interfering r x c k t n a b e (one_actor t c x d)

    pub interferences_fail : (f : Failure) (y : Judgement) → x ≡ Err f → t ≤ z.threads → y ≡ Err f → y ≡ interferences_to s z m z.threads r
    unfolding interferences_to
    interferences_fail f y h q v =
        v ∙ sym (up_fails interfering r f t z.threads q (sym (up_more interfering r x c k t t a refl e (one_actor t c x d)) ∙ h))

  -- all of them

  all_split : judge_at s z m (obligations P) 0
      ≡ interferences_to s z m z.threads (steps_to s z m z.threads (starts_to s z m z.threads (Ok 0)))
  unfolding starts_to steps_to interferences_to
  all_split =
      judged_append (starts P) (steps P ++ interferences P) (Ok 0)
      ∙ judged_append (steps P) (interferences P) (judged s z m (starts P) (Ok 0))

  pub all_judged : (a b q : Judgement) → a ≡ starts_to s z m z.threads (Ok 0) → b ≡ steps_to s z m z.threads a
      → q ≡ interferences_to s z m z.threads b → q ≡ judge_at s z m (obligations P) 0
  all_judged a b q ea eb e = rw (all_split, ← ea, ← eb) e

-- y and w: the image's bytes and sizes, as they are counted
pub all_counted : (s y : List ℕ) (z w : Sizes) (m : Marks) (q : Judgement) → y ≡ s → w ≡ z
    → q ≡ judge_at y w m (obligations (program_of w (bodies y))) 0 → q ≡ judge_at s z m (obligations (program_of z (bodies s))) 0
all_counted s y z w m q e d h = rw (← e, ← d) h

pub ruleset instructions = (own_branch, own_taken, own_act, acting_branch, acting_act, tests)

pub ruleset starts_loop = (starts_begun, starts_stay, starts_more, starts_fail, starts_all)

pub ruleset own_loop = (own_none, own_more, own_fail, own_all)

pub ruleset steps_loop = (steps_begun, steps_stay, steps_more, steps_fail, steps_all)

pub ruleset asserted_loop = (assertions_self, asserted_none, asserted_more, asserted_last, asserted_fail, asserted_all)

pub ruleset assertions_loop = (assertions_none, assertions_more, assertions_fail, assertions_all)

pub ruleset actions_loop = (actions_none, actions_more, actions_fail, actions_all)

pub ruleset interferences_loop = (interferences_begun, interferences_stay, interferences_more, interferences_fail, interferences_all)

pub ruleset all_judged_branches = (all_judged, all_counted)
