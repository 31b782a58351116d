-- What a fitting line tells, and what makes a line fit, whatever the rule.
use mathlib.Core.Path.{◌≡◌, refl, ap₂, subst}
use mathlib.Core.Bool.{Bool, true, false, not, ◌&&◌}
use mathlib.Core.List.{List, [], ◌∷◌}
use Prim.Native.Nat.{ℕ}
use lib.Dec.{T, leb, eqb, eqb→eq, eqb_refl}
use lib.ListN.{length}
use Rattle.semantics.specs.Base.{all, All}
use Rattle.semantics.specs.Limits
use Rattle.semantics.specs.Formula.{Value, Assertion, same}
use Rattle.semantics.specs.Replace.{Note}
use Rattle.semantics.specs.Machine.{Program, Mode, Mode.store, Mode.swap, Mode.exchange, Mode.fetch_add, covers, returns, Access.none, Access.load, Access.write, Instr, Instr.act, Instr.branch}
use Rattle.logic.specs.Statement.{Statement, inside, implies, triple, pair, first, is_imp}
use Rattle.logic.specs.Opcode
use Rattle.logic_schemas.specs.Pattern.{Fill}
use Rattle.logic_schemas.specs.Rules
use Rattle.logic.specs.Rule.{Rule}
use Rattle.logic_schemas.specs.Rules.{Row, row, Premises, these, implications}
use Rattle.logic_schemas.specs.Fits.{same_statement, same_all, is_among, opcode, filled, filled_all, premises_fit, operation_fits, side_holds, fits_by, thread_of, point_of, found, fits}
use Rattle.semantics.proofs.Base.{and_left, and_right, and_both, all_All}
use Rattle.semantics.proofs.Encoding.{same_eq, same_refl}

pub All-all : {A : Type 0} (f : A → Bool) (l : List A) → All (λ a. T (f a)) l → T (all f l)
All-all f [] h = tt
All-all f (x ∷ l) h = and_both (f x) (all f l) h.0 (All-all f l h.1)

-- lines of one form for one point
at_eq : (form : ℕ → ℕ → Assertion → Assertion → Statement) (t u k j : ℕ) (a c b d : Assertion)
    → T ((eqb t u && eqb k j) && (same a c && same b d)) → form t k a b ≡ form u j c d
at_eq form t u k j a c b d h =
    go (eqb→eq t u (search (and_left, and_right))) (eqb→eq k j (search (and_left, and_right)))
    (same_eq a c (search (and_left, and_right))) (same_eq b d (search (and_left, and_right)))
  where
    go : t ≡ u → k ≡ j → a ≡ c → b ≡ d → form t k a b ≡ form u j c d
    go p q e d = cc

at_refl : (t k : ℕ) (a b : Assertion) → T ((eqb t t && eqb k k) && (same a a && same b b))
at_refl t k a b =
    and_both (eqb t t && eqb k k) (same a a && same b b) (and_both (eqb t t) (eqb k k) (eqb_refl t) (eqb_refl k))
    (and_both (same a a) (same b b) (same_refl a) (same_refl b))

-- lines that say the same are one
pub statement_eq : (s r : Statement) → T (same_statement s r) → s ≡ r
statement_eq (inside i j) (inside k l) h = ap₂ inside (same_eq i k (search and_left)) (same_eq j l (search and_right))
statement_eq (inside i j) (implies c d) h = absurd h
statement_eq (inside i j) (triple t k c d) h = absurd h
statement_eq (inside i j) (pair t k c d) h = absurd h
statement_eq (implies a b) (inside k l) h = absurd h
statement_eq (implies a b) (implies c d) h = ap₂ implies (same_eq a c (search and_left)) (same_eq b d (search and_right))
statement_eq (implies a b) (triple u j c d) h = absurd h
statement_eq (implies a b) (pair u j c d) h = absurd h
statement_eq (triple t k a b) (inside i j) h = absurd h
statement_eq (triple t k a b) (implies c d) h = absurd h
statement_eq (triple t k a b) (triple u j c d) h = at_eq triple t u k j a c b d h
statement_eq (triple t k a b) (pair u j c d) h = absurd h
statement_eq (pair t k a b) (inside i j) h = absurd h
statement_eq (pair t k a b) (implies c d) h = absurd h
statement_eq (pair t k a b) (triple u j c d) h = absurd h
statement_eq (pair t k a b) (pair u j c d) h = at_eq pair t u k j a c b d h

pub statement_refl : (s : Statement) → T (same_statement s s)
statement_refl (inside i j) = and_both (same i i) (same j j) (same_refl i) (same_refl j)
statement_refl (implies a b) = and_both (same a a) (same b b) (same_refl a) (same_refl b)
statement_refl (triple t k a b) = at_refl t k a b
statement_refl (pair t k a b) = at_refl t k a b

pub all_eq : (l m : List Statement) → T (same_all l m) → l ≡ m
all_eq [] [] h = refl
all_eq [] (r ∷ m) h = absurd h
all_eq (s ∷ l) [] h = absurd h
all_eq (s ∷ l) (r ∷ m) h = ap₂ (λ (s : Statement) (l : List Statement). s ∷ l) (statement_eq s r (search and_left))
    (all_eq l m (search and_right))

pub all_refl : (l : List Statement) → T (same_all l l)
all_refl [] = tt
all_refl (s ∷ l) = and_both (same_statement s s) (same_all l l) (statement_refl s) (all_refl l)

module _ (P : Program) (t k : ℕ) (σ : Fill) where
  -- the premises are the row's filled; rule 20: at most 4 implications
  abbrev pub PremisesFit : Premises → List Statement → Type 0
  PremisesFit (these l) ps = filled_all P t k σ l ≡ ps
  PremisesFit implications ps = T (leb (length ps) Limits.premises && all is_imp ps)

  pub premises-fit : (p : Premises) (ps : List Statement) → T (premises_fit P t k σ p ps) → PremisesFit p ps
  premises-fit (these l) ps h = all_eq (filled_all P t k σ l) ps h
  premises-fit implications ps h = h

  pub premises_back : (p : Premises) (ps : List Statement) → PremisesFit p ps → T (premises_fit P t k σ p ps)
  premises_back (these l) ps e = subst (λ (z : List Statement). T (same_all (filled_all P t k σ l) z)) e (all_refl (filled_all P t k σ l))
  premises_back implications ps h = h

-- the line is the row's shape filled, its premises too
pub record Fit (P : Program) (t k : ℕ) (σ : Fill) (R : Row) (s : Statement) (ps : List Statement) : Type 0 where
  pub says : filled P t k σ R.says ≡ s
  pub premises : PremisesFit P t k σ R.premises ps
  pub op : T (operation_fits P t k R.says R.operations)
  pub side : All (λ c. T (side_holds P t k σ s ps c)) R.sides

pub fit : (P : Program) (n : Rule) (s : Statement) (ps : List Statement) → T (fits P n s ps)
    → Fit P (thread_of s) (point_of s) (found (row n) s ps) (row n) s ps
fit P n s ps h = go (found (row n) s ps) (row n) h
  where
    go : (σ : Fill) (R : Row) → T (fits_by P (thread_of s) (point_of s) σ R s ps) → Fit P (thread_of s) (point_of s) σ R s ps
    go σ R h = record {
      says = statement_eq (filled P (thread_of s) (point_of s) σ R.says) s (search (and_left, and_right));
      premises = premises-fit P (thread_of s) (point_of s) σ R.premises ps (search (and_left, and_right));
      op = search (and_left, and_right);
      side = all_All (side_holds P (thread_of s) (point_of s) σ s ps) R.sides (search (and_left, and_right));
    }

pub fit_back : (P : Program) (n : Rule) (s : Statement) (ps : List Statement)
    → Fit P (thread_of s) (point_of s) (found (row n) s ps) (row n) s ps → T (fits P n s ps)
fit_back P n s ps g = go (thread_of s) (point_of s) (found (row n) s ps) (row n) g
  where
    go : (t k : ℕ) (σ : Fill) (R : Row) → Fit P t k σ R s ps → T (fits_by P t k σ R s ps)
    go t k σ R g =
        and_both (same_statement (filled P t k σ R.says) s && premises_fit P t k σ R.premises ps)
        (operation_fits P t k R.says R.operations && all (side_holds P t k σ s ps) R.sides)
        (and_both (same_statement (filled P t k σ R.says) s) (premises_fit P t k σ R.premises ps)
        (subst (λ (z : Statement). T (same_statement (filled P t k σ R.says) z)) g.says (statement_refl (filled P t k σ R.says)))
        (premises_back P t k σ R.premises ps g.premises))
        (and_both (operation_fits P t k R.says R.operations) (all (side_holds P t k σ s ps) R.sides) g.op
        (All-all (side_holds P t k σ s ps) R.sides g.side))

-- AN OPERATION AMONG THOSE ALLOWED, as a triple reads the instruction
not_assign : (l : List ℕ) → is_among Opcode.assign l ≡ false → is_among Opcode.assign_two l ≡ false → (ns : List Note)
    → T (is_among (opcode (act none ns)) l) → ⊥
not_assign l e d [] h = subst T e h
not_assign l e d (n ∷ []) h = subst T e h
not_assign l e d (n ∷ m ∷ ns) h = subst T d h

pub as_assign : {Z : Type 0} (c : Instr) → T (is_among (opcode (first c)) Rules.assigns) → ((ns : List Note) → c ≡ act none ns → Z) → Z
as_assign (act none ns) h g = g ns refl
as_assign (act (load true r x) ns) h g = absurd h
as_assign (act (load false r x) ns) h g = absurd h
as_assign (act (write (store true) x f) ns) h g = absurd h
as_assign (act (write (store false) x f) ns) h g = absurd h
as_assign (act (write swap x f) ns) h g = absurd h
as_assign (act (write (exchange r) x f) ns) h g = absurd h
as_assign (act (write (fetch_add r) x f) ns) h g = absurd h
as_assign (branch e a) h g = absurd h

pub as_load : {Z : Type 0} (c : Instr) → T (is_among (opcode (first c)) Rules.loads)
    → ((acq : Bool) (r x : ℕ) → first c ≡ act (load acq r x) [] → Z) → Z
as_load (act none ns) h g = absurd (not_assign Rules.loads refl refl ns h)
as_load (act (load true r x) ns) h g = g true r x refl
as_load (act (load false r x) ns) h g = g false r x refl
as_load (act (write (store true) x f) ns) h g = absurd h
as_load (act (write (store false) x f) ns) h g = absurd h
as_load (act (write swap x f) ns) h g = absurd h
as_load (act (write (exchange r) x f) ns) h g = absurd h
as_load (act (write (fetch_add r) x f) ns) h g = absurd h
as_load (branch e a) h g = absurd h

pub as_acquire : {Z : Type 0} (c : Instr) → T (is_among (opcode (first c)) Rules.acquiring)
    → ((r x : ℕ) → first c ≡ act (load true r x) [] → Z)
    → ((m : Mode) (x : ℕ) (f : Value) → first c ≡ act (write m x f) [] → T (covers m) → Z) → Z
as_acquire (act none ns) h g k = absurd (not_assign Rules.acquiring refl refl ns h)
as_acquire (act (load true r x) ns) h g k = g r x refl
as_acquire (act (load false r x) ns) h g k = absurd h
as_acquire (act (write (store true) x f) ns) h g k = absurd h
as_acquire (act (write (store false) x f) ns) h g k = absurd h
as_acquire (act (write swap x f) ns) h g k = k swap x f refl tt
as_acquire (act (write (exchange r) x f) ns) h g k = k (exchange r) x f refl tt
as_acquire (act (write (fetch_add r) x f) ns) h g k = k (fetch_add r) x f refl tt
as_acquire (branch e a) h g k = absurd h

pub as_store : {Z : Type 0} (c : Instr) → T (is_among (opcode (first c)) Rules.stores)
    → ((rel : Bool) (x : ℕ) (f : Value) → first c ≡ act (write (store rel) x f) [] → Z) → Z
as_store (act none ns) h g = absurd (not_assign Rules.stores refl refl ns h)
as_store (act (load true r x) ns) h g = absurd h
as_store (act (load false r x) ns) h g = absurd h
as_store (act (write (store true) x f) ns) h g = g true x f refl
as_store (act (write (store false) x f) ns) h g = g false x f refl
as_store (act (write swap x f) ns) h g = absurd h
as_store (act (write (exchange r) x f) ns) h g = absurd h
as_store (act (write (fetch_add r) x f) ns) h g = absurd h
as_store (branch e a) h g = absurd h

pub as_release : {Z : Type 0} (c : Instr) → T (is_among (opcode (first c)) Rules.releasing)
    → ((x : ℕ) (f : Value) → first c ≡ act (write (store true) x f) [] → Z) → Z
as_release (act none ns) h g = absurd (not_assign Rules.releasing refl refl ns h)
as_release (act (load true r x) ns) h g = absurd h
as_release (act (load false r x) ns) h g = absurd h
as_release (act (write (store true) x f) ns) h g = g x f refl
as_release (act (write (store false) x f) ns) h g = absurd h
as_release (act (write swap x f) ns) h g = absurd h
as_release (act (write (exchange r) x f) ns) h g = absurd h
as_release (act (write (fetch_add r) x f) ns) h g = absurd h
as_release (branch e a) h g = absurd h

pub as_store_swap : {Z : Type 0} (c : Instr) → T (is_among (opcode (first c)) Rules.stores_swaps)
    → ((m : Mode) (x : ℕ) (f : Value) → first c ≡ act (write m x f) [] → T (not (returns m)) → Z) → Z
as_store_swap (act none ns) h g = absurd (not_assign Rules.stores_swaps refl refl ns h)
as_store_swap (act (load true r x) ns) h g = absurd h
as_store_swap (act (load false r x) ns) h g = absurd h
as_store_swap (act (write (store true) x f) ns) h g = g (store true) x f refl tt
as_store_swap (act (write (store false) x f) ns) h g = g (store false) x f refl tt
as_store_swap (act (write swap x f) ns) h g = g swap x f refl tt
as_store_swap (act (write (exchange r) x f) ns) h g = absurd h
as_store_swap (act (write (fetch_add r) x f) ns) h g = absurd h
as_store_swap (branch e a) h g = absurd h

pub as_write : {Z : Type 0} (c : Instr) → T (is_among (opcode (first c)) Rules.writes)
    → ((m : Mode) (x : ℕ) (f : Value) → first c ≡ act (write m x f) [] → Z) → Z
as_write (act none ns) h g = absurd (not_assign Rules.writes refl refl ns h)
as_write (act (load true r x) ns) h g = absurd h
as_write (act (load false r x) ns) h g = absurd h
as_write (act (write (store true) x f) ns) h g = g (store true) x f refl
as_write (act (write (store false) x f) ns) h g = g (store false) x f refl
as_write (act (write swap x f) ns) h g = g swap x f refl
as_write (act (write (exchange r) x f) ns) h g = g (exchange r) x f refl
as_write (act (write (fetch_add r) x f) ns) h g = g (fetch_add r) x f refl
as_write (branch e a) h g = absurd h

pub as_swap : {Z : Type 0} (c : Instr) → T (is_among (opcode (first c)) Rules.swaps)
    → ((x : ℕ) (f : Value) → first c ≡ act (write swap x f) [] → Z) → Z
as_swap (act none ns) h g = absurd (not_assign Rules.swaps refl refl ns h)
as_swap (act (load true r x) ns) h g = absurd h
as_swap (act (load false r x) ns) h g = absurd h
as_swap (act (write (store true) x f) ns) h g = absurd h
as_swap (act (write (store false) x f) ns) h g = absurd h
as_swap (act (write swap x f) ns) h g = g x f refl
as_swap (act (write (exchange r) x f) ns) h g = absurd h
as_swap (act (write (fetch_add r) x f) ns) h g = absurd h
as_swap (branch e a) h g = absurd h

pub as_covering : {Z : Type 0} (c : Instr) → T (is_among (opcode (first c)) Rules.covering)
    → ((m : Mode) (x : ℕ) (f : Value) → first c ≡ act (write m x f) [] → T (covers m) → Z) → Z
as_covering (act none ns) h g = absurd (not_assign Rules.covering refl refl ns h)
as_covering (act (load true r x) ns) h g = absurd h
as_covering (act (load false r x) ns) h g = absurd h
as_covering (act (write (store true) x f) ns) h g = absurd h
as_covering (act (write (store false) x f) ns) h g = absurd h
as_covering (act (write swap x f) ns) h g = g swap x f refl tt
as_covering (act (write (exchange r) x f) ns) h g = g (exchange r) x f refl tt
as_covering (act (write (fetch_add r) x f) ns) h g = g (fetch_add r) x f refl tt
as_covering (branch e a) h g = absurd h

pub as_returning : {Z : Type 0} (c : Instr) → T (is_among (opcode (first c)) Rules.returning)
    → ((m : Mode) (x : ℕ) (f : Value) → first c ≡ act (write m x f) [] → T (returns m) → Z) → Z
as_returning (act none ns) h g = absurd (not_assign Rules.returning refl refl ns h)
as_returning (act (load true r x) ns) h g = absurd h
as_returning (act (load false r x) ns) h g = absurd h
as_returning (act (write (store true) x f) ns) h g = absurd h
as_returning (act (write (store false) x f) ns) h g = absurd h
as_returning (act (write swap x f) ns) h g = absurd h
as_returning (act (write (exchange r) x f) ns) h g = g (exchange r) x f refl tt
as_returning (act (write (fetch_add r) x f) ns) h g = g (fetch_add r) x f refl tt
as_returning (branch e a) h g = absurd h

-- a pair, as its whole
pub as_pair : {Z : Type 0} (c : Instr) → T (is_among (opcode c) Rules.pairs)
    → ((m : Mode) (x : ℕ) (f : Value) (n : Note) (ns : List Note) → c ≡ act (write m x f) (n ∷ ns) → T (not (returns m)) → Z) → Z
as_pair (act none ns) h g = absurd (not_assign Rules.pairs refl refl ns h)
as_pair (act (load true r x) ns) h g = absurd h
as_pair (act (load false r x) ns) h g = absurd h
as_pair (act (write (store true) x f) []) h g = absurd h
as_pair (act (write (store true) x f) (n ∷ ns)) h g = g (store true) x f n ns refl tt
as_pair (act (write (store false) x f) []) h g = absurd h
as_pair (act (write (store false) x f) (n ∷ ns)) h g = g (store false) x f n ns refl tt
as_pair (act (write swap x f) []) h g = absurd h
as_pair (act (write swap x f) (n ∷ ns)) h g = g swap x f n ns refl tt
as_pair (act (write (exchange r) x f) ns) h g = absurd h
as_pair (act (write (fetch_add r) x f) ns) h g = absurd h
as_pair (branch e a) h g = absurd h
