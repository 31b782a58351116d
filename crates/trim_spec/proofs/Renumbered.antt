-- Where everything of a document stands in the trimmed one.
use mathlib.Core.Path.{◌≡◌, refl, ap, sym, ◌∙◌, subst}
use mathlib.Core.Bool.{Bool, true, false}
use mathlib.Core.List.{List, [], map}
use Prim.Native.Nat.{ℕ, zero, suc, ◌≤◌}
use native.Mathlib.Omega.{arith}
use lib.ListN.{length, get_or, length-map, get_or-map}
use Rattle.limits.specs.Numbers.{nth}
use Rattle.image_header.specs.Thread.{nothing}
use Rattle.image_header.specs.declared.instruction.Instruction.{Instruction}
use Rattle.trim_spec.specs.Document.{Document}
use Rattle.trim_spec.specs.Canonical.{no_line, no_claim}
use Rattle.trim_spec.specs.Live.{selected, renumbered}
use Rattle.trim_spec.specs.Trim.{half_by, instruction_by, line_by, claim_by, trimmed_by}
use Rattle.trim_spec.proofs.MarkCounts.{renumbered_0, renumbered_high, selected_nth, Selected, selected_from}

module _ {A B : Type 0} (h : A → B) (l : List A) where
  -- a default that is taken to the default
  pub map_at : (d : A) (e : B) (i : ℕ) → h d ≡ e → get_or (map h l) i e ≡ h (get_or l i d)
  map_at d e i q = subst (λ (x : B). get_or (map h l) i x ≡ h (get_or l i d)) q (get_or-map h l i d)

  pub map_nth : (d : A) (e : B) (n : ℕ) → h d ≡ e → nth (map h l) n e ≡ h (nth l n d)
  unfolding nth
  map_nth d e zero q = sym q
  map_nth d e (suc n) q = map_at d e n q

module _ (u k : List Bool) (D : Document) where
  abbrev E : Document
  E = trimmed_by u k D

  abbrev f : ℕ → ℕ
  f = renumbered u

  abbrev g : ℕ → ℕ
  g = renumbered k

  no_line_lem : line_by f g no_line ≡ no_line
  unfolding line_by
  no_line_lem = rw (renumbered_0 u)

  no-claim : claim_by f g no_claim ≡ no_claim
  unfolding claim_by
  no-claim = rw (renumbered_0 k)

  pub no_instruction : instruction_by f g nothing ≡ nothing
  unfolding instruction_by half_by
  no_instruction = rw (renumbered_0 u)

  -- how many

  pub threads_length : length E.threads ≡ length D.threads
  threads_length = length-map D.threads (λ (l : List Instruction). map (instruction_by f g) l)

  pub outline_length : length E.outline ≡ length D.outline
  outline_length = length-map D.outline f

  pub lines_length : length E.lines ≡ length (selected k D.lines)
  lines_length = length-map (selected k D.lines) (line_by f g)

  pub obligations_length : length E.obligations ≡ length D.obligations
  obligations_length = length-map D.obligations g

  pub claims_length : length E.claims ≡ length D.claims
  claims_length = length-map D.claims (claim_by f g)

  -- what stands where

  pub thread-at : (t : ℕ) → get_or E.threads t [] ≡ map (instruction_by f g) (get_or D.threads t [])
  thread-at t = map_at (λ (l : List Instruction). map (instruction_by f g) l) D.threads [] [] t refl

  pub instruction_at : (t p : ℕ) → get_or (get_or E.threads t []) p nothing ≡ instruction_by f g (get_or (get_or D.threads t []) p nothing)
  instruction_at t p = rw (thread-at t) (map_at (instruction_by f g) (get_or D.threads t []) nothing nothing p no_instruction)

  pub instructions_length : (t : ℕ) → length (get_or E.threads t []) ≡ length (get_or D.threads t [])
  instructions_length t = rw (thread-at t) (length-map (get_or D.threads t []) (instruction_by f g))

  pub outline-at : (i : ℕ) → get_or E.outline i 0 ≡ f (get_or D.outline i 0)
  outline-at i = map_at f D.outline 0 0 i (renumbered_0 u)

  pub obligation_at : (i : ℕ) → get_or E.obligations i 0 ≡ g (get_or D.obligations i 0)
  obligation_at i = map_at g D.obligations 0 0 i (renumbered_0 k)

  pub claim-at : (i : ℕ) → get_or E.claims i no_claim ≡ claim_by f g (get_or D.claims i no_claim)
  claim-at i = map_at (claim_by f g) D.claims no_claim no_claim i no-claim

  pub line_at : (n : ℕ) → 1 ≤ n → n ≤ length D.lines → get_or k n false ≡ true
      → nth E.lines (g n) no_line ≡ line_by f g (nth D.lines n no_line)
  line_at n a b e = map_nth (line_by f g) (selected k D.lines) no_line no_line (g n) no_line_lem
      ∙ ap (line_by f g) (selected_nth k D.lines no_line n a b e)

  -- its premises
  pub premises_length : (n : ℕ) → 1 ≤ n → n ≤ length D.lines → get_or k n false ≡ true
      → length (nth E.lines (g n) no_line).premises ≡ length (nth D.lines n no_line).premises
  unfolding line_by
  premises_length n a b e = rw (line_at n a b e) (length-map (nth D.lines n no_line).premises g)

  pub premise_at : (n i : ℕ) → 1 ≤ n → n ≤ length D.lines → get_or k n false ≡ true
      → get_or (nth E.lines (g n) no_line).premises i 0 ≡ g (get_or (nth D.lines n no_line).premises i 0)
  unfolding line_by
  premise_at n i a b e = rw (line_at n a b e) (map_at g (nth D.lines n no_line).premises 0 0 i (renumbered_0 k))

  -- the old line of a new one
  pub line_from : (j : ℕ) → 1 ≤ j → j ≤ length E.lines → Selected k D.lines j
  line_from j a b = selected_from k D.lines j a (let q = lines_length in omega arith)

  -- numbers that are there stay there
  pub formula_there : (n : ℕ) → n ≤ length D.formulas → f n ≤ length E.formulas
  formula_there n h = renumbered_high u D.formulas n h

  pub line_there : (n : ℕ) → n ≤ length D.lines → g n ≤ length E.lines
  line_there n h = let q = lines_length in let w = renumbered_high k D.lines n h in omega arith
