-- Small programs with their outlines, written as lists.
use Rattle.std.specs.Prelude.{Bool, true, ◌&&◌, List, [], ◌∷◌, ℕ, zero, suc, ◌-◌, ltb, length}
use Rattle.semantics.specs.Base.{all, below, up_to}
use Rattle.semantics.specs.Formula.{Formula, Assertion, Formula.holds}
use Rattle.semantics.specs.Names.{startless}
use Rattle.semantics.specs.Machine.{Program, Access.none, Instr, Instr.act}
use Rattle.semantics.specs.EveryRun.{Outline}
use Rattle.logic.specs.WellFormed.{proper}

-- the member at a place, counted from 0; d where there is none
abbrev pub nth : {A : Type 0} → A → List A → ℕ → A
nth d [] i = d
nth d (a ∷ l) zero = a
nth d (a ∷ l) (suc i) = nth d l i

-- a program whose registers all start at 0: the start value of each word, the instructions of each thread, and its assertions
pub record Example : Type 0 where
  pub range : ℕ
  pub start : List ℕ
  pub threads : List (List Instr)
  pub assertions : List (List Assertion)

-- what stands where a thread has no instruction, and where it has no assertion
abbrev pub nothing : Instr
nothing = act none []

abbrev pub true_assertion : Assertion
true_assertion = holds (Formula.not Formula.false)

-- the program; threads and words count from 1
abbrev pub program_of : Example → Program
program_of E = record {
  threads = length E.threads;
  words = length E.start;
  range = E.range;
  init = nth 0 (0 ∷ E.start);
  cleared = λ r. true;
  points = λ t. suc (length (nth [] ([] ∷ E.threads) t));
  code = λ t. nth nothing (nth [] ([] ∷ E.threads) t);
}

-- the outline
abbrev pub outline_of : Example → Outline
outline_of E t = nth true_assertion (nth [] ([] ∷ E.assertions) t)

-- the program and the outline are as an image may have them, as a test that computes
abbrev pub well_formed : Example → Bool
well_formed E =
    (ltb 0 E.range && all (λ n. ltb n E.range) (0 ∷ E.start))
    && (all (λ t. all (λ k. proper (program_of E) ((program_of E).points t) ((program_of E).code t k)) (below ((program_of E).points t - 1)))
    (up_to (length E.threads))
    && all (λ t. all (λ k. startless (outline_of E t k)) (below ((program_of E).points t))) (up_to (length E.threads)))
