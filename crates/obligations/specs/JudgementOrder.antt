-- The judgement after groups of obligations, in the order of the logic: what each loop of the code has done.
use Rattle.std.specs.Prelude.{List, map, ℕ}
use Rattle.semantics.specs.Machine.{Program}
use Rattle.logic.specs.Obligations.{Obligation.start, flat, own, acting, instructed, assertions}
use Rattle.semantics.specs.Base.{below, up_to}
use Rattle.image_frames.specs.Records.{bodies}
use Rattle.image_header.specs.declared.sizes.Sizes.{Sizes}
use Rattle.image_meaning.specs.Program.{program_of}
use Rattle.rules_justified.specs.declared.marks.Marks.{Marks}
use Rattle.obligations.specs.Judgement.{Judgement, judged}

-- the program of the image
abbrev pub program : List ℕ → Sizes → Program
program s z = program_of z (bodies s)

module _ (s : List ℕ) (z : Sizes) (m : Marks) where
  abbrev P : Program
  P = program s z

  -- the judgement after the starts of threads 1 to n
  unfoldable pub starts_to : ℕ → Judgement → Judgement
  starts_to n r = judged s z m (map start (up_to n)) r

  -- the judgement after the instruction at point k of thread t
  unfoldable pub own_at : ℕ → ℕ → Judgement → Judgement
  own_at t k r = judged s z m (own P t k (P.code t k)) r

  -- the judgement after the instructions of thread t at points below n
  unfoldable pub own_to : ℕ → ℕ → Judgement → Judgement
  own_to t n r = judged s z m (flat (λ k. own P t k (P.code t k)) (below n)) r

  -- the judgement after the instructions of threads 1 to n
  unfoldable pub steps_to : ℕ → Judgement → Judgement
  steps_to n r = judged s z m (flat (λ t. flat (λ k. own P t k (P.code t k)) (instructed P t)) (up_to n)) r

  -- the judgement after the assertion at point j of thread u under the instruction at point k of thread t
  unfoldable pub acting_at : ℕ → ℕ → ℕ → ℕ → Judgement → Judgement
  acting_at u j t k r = judged s z m (acting P u j t k (P.code t k)) r

  -- the judgement after the assertions of u at points below n under the instruction at point k of thread t
  unfoldable pub asserted_to : ℕ → ℕ → ℕ → ℕ → Judgement → Judgement
  asserted_to t k u n r = judged s z m (flat (λ j. acting P u j t k (P.code t k)) (below n)) r

  -- the judgement after all assertions of u under the instruction at point k of thread t
  unfoldable pub assertions_at : ℕ → ℕ → ℕ → Judgement → Judgement
  assertions_at t k u r = judged s z m (assertions P t k u) r

  -- the judgement after the assertions of threads 1 to n under the instruction at point k of thread t
  unfoldable pub assertions_to : ℕ → ℕ → ℕ → Judgement → Judgement
  assertions_to t k n r = judged s z m (flat (λ u. assertions P t k u) (up_to n)) r

  -- the judgement after all assertions under the instructions of t at points below n
  unfoldable pub actions_to : ℕ → ℕ → Judgement → Judgement
  actions_to t n r = judged s z m (flat (λ k. flat (λ u. assertions P t k u) (up_to P.threads)) (below n)) r

  -- the judgement after all assertions under the instructions of threads 1 to n
  unfoldable pub interferences_to : ℕ → Judgement → Judgement
  interferences_to n r = judged s z m (flat (λ t. flat (λ k. flat (λ u. assertions P t k u) (up_to P.threads)) (instructed P t))
      (up_to n)) r
