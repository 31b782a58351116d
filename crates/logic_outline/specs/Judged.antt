-- Demand 2: each obligation has a justified line that states it, or the first one that has not is named, with what it lacks.
use Rattle.std.specs.Prelude.{◌≡◌, ◌≢◌, ℕ, ◌<◌, length, get_or}
use Rattle.logic.specs.Obligations.{Obligation, Obligation.start, obligations}
use Rattle.logic_outline.specs.Lines.{Justified}
use Rattle.logic_outline.specs.Verdict.{Image, Finding, accepted, unmet, denied, asks, forbids, Bears, Met}

module _ (D : Image) where
  -- how many obligations there are
  abbrev pub total : ℕ
  total = length (obligations D.program)

  -- the obligation with number k, from 0
  abbrev pub numbered : ℕ → Obligation
  numbered k = get_or (obligations D.program) k (start 0)

  -- obligation k names a line that states what is wanted and that is justified: by a rule from justified premises, to the last
  abbrev pub Meets : ℕ → Type 0
  Meets k = Met D (numbered k) (D.named k)

  -- every obligation is met
  abbrev pub EachMet : Type 0
  EachMet = (k : ℕ) → k < total → Meets k

  -- what the obligation o, which names the line n, lacks: 20, "no line"; 21, "line concludes something else"; 22, "line unjustified"
  pub data Lacks (o : Obligation) (n : ℕ) : ℕ → Type 0 where
    no_line : n ≡ 0 → Lacks o n 20
    other_statement : n ≢ 0 → asks D o ≢ (D.certificate.line n).says → Lacks o n 21
    not_justified : n ≢ 0 → asks D o ≡ (D.certificate.line n).says → (Justified D.program D.certificate n → ⊥) → Lacks o n 22

  -- claim i names a line that states that false follows from both assertions and that is justified
  abbrev pub Sustains : ℕ → Type 0
  Sustains i = Bears D (forbids D i) (D.claims.line i)

  -- every claim is sustained
  abbrev pub EachSustained : Type 0
  EachSustained = (i : ℕ) → i < D.claims.count → Sustains i

  -- every obligation is met, all are counted, and every claim is sustained; or the first obligation that is not met is named, with what it
  -- lacks, its line and how many are before it; or, where every obligation is met, the first claim that is not sustained
  pub data Judged : Finding → Type 0 where
    each_met : EachMet → EachSustained → Judged (accepted total)
    first_unmet : {c : ℕ} (k : ℕ) → k < total → ((i : ℕ) → i < k → Meets i) → Lacks (numbered k) (D.named k) c
        → Judged (unmet c (numbered k) (D.named k) k)
    first-denied : (i : ℕ) → EachMet → i < D.claims.count → ((j : ℕ) → j < i → Sustains j) → (Sustains i → ⊥) → Judged (denied i total)
