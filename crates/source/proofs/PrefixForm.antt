-- A formula's nodes give its bytes in prefix form as the logic encodes it.
use mathlib.Core.Path.{◌≡◌, refl, ap, sym, ◌∙◌}
use mathlib.Core.List.{List, [], ◌∷◌, ◌++◌, append_assoc, append-nil}
use Prim.Native.Nat.{ℕ}
use Rattle.semantics.specs.Formula.{Sort, Formula, encode, Formula.const, Formula.reg, Formula.word, Formula.sum, Formula.equal, Formula.less, Formula.and, Formula.or, Formula.unsync, Formula.cov, Formula.box, Formula.one, Formula.chop, Formula.both, Formula.either, Formula.sees, Formula.both_a, Formula.either_a, Formula.start, Formula.holds}
use Rattle.logic.specs.Obligations.{flat}
use Rattle.source.specs.Source.{Listed}
use Rattle.source.specs.Prefix.{Node, nodes, node_bytes}
use Rattle.source.specs.Written.{formula}

abbrev bytes : List Node → List ℕ
bytes l = flat node_bytes l

-- two parts, with something behind them
parts : (p q : List Node) (l m n : List ℕ) → bytes q ++ l ≡ m → bytes p ++ m ≡ n → bytes (p ++ q) ++ l ≡ n
parts [] q l m n e d = e ∙ d
parts (x ∷ p) q l m n e d =
    append_assoc (node_bytes x) (bytes (p ++ q)) l
    ∙ ap (λ (u : List ℕ). node_bytes x ++ u) (parts p q l m (bytes p ++ m) e refl)
    ∙ sym (append_assoc (node_bytes x) (bytes p) m) ∙ d

both_parts : {r : Sort} (f g : Formula r) (c : ℕ) (l : List ℕ) → ((m : List ℕ) → bytes (nodes f) ++ m ≡ encode f m)
    → ((m : List ℕ) → bytes (nodes g) ++ m ≡ encode g m)
    → c ∷ (bytes (nodes f ++ nodes g) ++ l) ≡ c ∷ encode f (encode g l)
both_parts f g c l a b = ap (◌∷◌ c) (parts (nodes f) (nodes g) l (encode g l) (encode f (encode g l)) (b l) (a (encode g l)))

pub nodes_encode : {s : Sort} (f : Formula s) (l : List ℕ) → flat node_bytes (nodes f) ++ l ≡ encode f l
unfolding nodes node_bytes
nodes_encode (const n) l = refl
nodes_encode (reg r) l = refl
nodes_encode (word x) l = refl
nodes_encode (sum a b) l = both_parts a b 3 l (nodes_encode a) (nodes_encode b)
nodes_encode Formula.false l = refl
nodes_encode (equal a b) l = both_parts a b 9 l (nodes_encode a) (nodes_encode b)
nodes_encode (less a b) l = both_parts a b 10 l (nodes_encode a) (nodes_encode b)
nodes_encode (Formula.not e) l = ap (◌∷◌ 11) (nodes_encode e l)
nodes_encode (and e f) l = both_parts e f 12 l (nodes_encode e) (nodes_encode f)
nodes_encode (or e f) l = both_parts e f 13 l (nodes_encode e) (nodes_encode f)
nodes_encode (unsync x) l = refl
nodes_encode (cov x) l = refl
nodes_encode (box e) l = ap (◌∷◌ 16) (nodes_encode e l)
nodes_encode (one x) l = refl
nodes_encode (chop i j) l = both_parts i j 18 l (nodes_encode i) (nodes_encode j)
nodes_encode (both i j) l = both_parts i j 19 l (nodes_encode i) (nodes_encode j)
nodes_encode (either i j) l = both_parts i j 20 l (nodes_encode i) (nodes_encode j)
nodes_encode (sees t i) l = ap (λ (u : List ℕ). 24 ∷ t ∷ u) (nodes_encode i l)
nodes_encode (both_a a b) l = both_parts a b 25 l (nodes_encode a) (nodes_encode b)
nodes_encode (either_a a b) l = both_parts a b 26 l (nodes_encode a) (nodes_encode b)
nodes_encode start l = refl
nodes_encode (holds e) l = ap (◌∷◌ 28) (nodes_encode e l)

pub formula_encode : (f : Listed) → formula f ≡ encode f.formula []
unfolding formula
formula_encode f = sym (append-nil (bytes (nodes f.formula))) ∙ nodes_encode f.formula []
