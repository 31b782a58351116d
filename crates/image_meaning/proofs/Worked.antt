-- What each operation and each form of a line says, worked out number by number as the page lists them.
use mathlib.Core.Path.{◌≡◌, refl}
use mathlib.Core.Bool.{true, false}
use mathlib.Core.List.{List, [], ◌∷◌, map}
use Prim.Native.Nat.{ℕ}
use Rattle.semantics.specs.Formula.{Sort}
use Rattle.semantics.specs.Machine.{Mode.store, Mode.swap, Mode.exchange, Mode.fetch_add, Access.none, Access.load, Access.write, Instr.act, Instr.branch}
use Rattle.logic.specs.Statement.{inside, implies, triple, taking}
use Rattle.limits.specs.Numbers.{le16}
use Rattle.image_header.specs.declared.sizes.Sizes.{Sizes}
use Rattle.image_header.specs.declared.instruction.Half.{Half}
use Rattle.image_bodies.specs.declared.line.Form.TheVariants.{Triple, Implication, Inclusion, Pair}
use Rattle.image_meaning.specs.Formulas.{formula}
use Rattle.image_meaning.specs.Program.{gives, idle, note_of, instr, program_of}
use Rattle.image_meaning.specs.Certificate.{saying}

-- operations 0 to 12, and 13, which is none: fields a and b, formula f, second half h
module _ (l : List (List ℕ)) (a b f : ℕ) (h : Half) where
  operations : map (λ (o : ℕ). instr l (record { operation = o; a = a; b = b; formula = f; second = h }))
      (0 ∷ 1 ∷ 2 ∷ 3 ∷ 4 ∷ 5 ∷ 6 ∷ 7 ∷ 8 ∷ 9 ∷ 10 ∷ 11 ∷ 12 ∷ 13 ∷ [])
      ≡ act none (gives a (formula l Sort.value f) ∷ [])
      ∷ act (load false a b) []
      ∷ act (load true a b) []
      ∷ act (write (store false) a (formula l Sort.value f)) []
      ∷ act (write (store true) a (formula l Sort.value f)) []
      ∷ act (write swap a (formula l Sort.value f)) []
      ∷ branch (formula l Sort.test f) a
      ∷ act (write (exchange b) a (formula l Sort.value f)) []
      ∷ act (write (fetch_add b) a (formula l Sort.value f)) []
      ∷ act (write (store false) a (formula l Sort.value f)) (note_of l h ∷ [])
      ∷ act (write (store true) a (formula l Sort.value f)) (note_of l h ∷ [])
      ∷ act (write swap a (formula l Sort.value f)) (note_of l h ∷ [])
      ∷ act none (gives a (formula l Sort.value f) ∷ note_of l h ∷ [])
      ∷ idle
      ∷ []
  unfolding instr
  operations = refl

-- a line's body: rule, thread 2, point 7, left formula 1 + 256 * 3, right formula 4 + 256 * 5, no premise
module _ (z : Sizes) (l : List (List ℕ)) (rule : ℕ) where
  abbrev body : List ℕ
  body = rule ∷ 2 ∷ 7 ∷ 1 ∷ 3 ∷ 4 ∷ 5 ∷ 0 ∷ []

  said_triple : saying z l Triple body ≡ triple 2 7 (formula l Sort.assertion 769) (formula l Sort.assertion 1284)
  unfolding saying le16
  said_triple = refl

  said_pair : saying z l Pair body
      ≡ taking 2 7 ((program_of z l).code 2 7) (formula l Sort.assertion 769) (formula l Sort.assertion 1284)
  unfolding saying le16
  said_pair = refl

  said_implication : saying z l Implication body ≡ implies (formula l Sort.assertion 769) (formula l Sort.assertion 1284)
  unfolding saying le16
  said_implication = refl

  said_inclusion : saying z l Inclusion body ≡ inside (formula l Sort.interval 769) (formula l Sort.interval 1284)
  unfolding saying le16
  said_inclusion = refl
