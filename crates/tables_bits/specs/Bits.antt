-- The machine words of a truth table: 64 rows in each, a bit for each row.
use Rattle.std.specs.Prelude.{ℕ, ◌-◌, ◌*◌, ◌/◌, ◌%◌, ◌^◌, min, List, [], ◌∷◌, Bool, cond, get_or, eqb, ltb}
use Rattle.std.specs.Int.Bits.{bit_and, bit_or, bit_xor}
use Rattle.semantics.specs.Code
use Rattle.semantics.specs.Code.{byte}
use Rattle.logic.specs.Rows.{all_below}
use Rattle.tables_columns.specs.Column.{column}

-- the bit at place i of the word x
abbrev pub bit : ℕ → ℕ → ℕ
bit x i = x / 2 ^ i % 2

-- the word in which every row is set
abbrev pub ones : ℕ
ones = 0xffff_ffff_ffff_ffff

-- a node's word from the words of its parts
unfoldable pub word_of : ℕ → ℕ → ℕ → ℕ → ℕ
word_of c o a b =
    cond (eqb c (byte Code.const)) (cond (eqb o 1) ones 0)
    (cond (eqb c (byte Code.not)) (bit_xor a ones)
    (cond (eqb c (byte Code.and)) (bit_and a b)
    (cond (eqb c (byte Code.or)) (bit_or a b)
    (cond (eqb c (byte Code.both_a)) (bit_and a b)
    (cond (eqb c (byte Code.either_a)) (bit_or a b) (cond (eqb c (byte Code.holds)) a 0))))))

-- n words of a node's table from the tables of its parts
unfoldable pub words_of : ℕ → ℕ → ℕ → List ℕ → List ℕ → List ℕ
words_of c o n a b = column (λ w. word_of c o (get_or a w 0) (get_or b w 0)) n

-- the rows set in a and not in b
unfoldable pub deny_word : ℕ → ℕ → ℕ
deny_word a b = bit_and a (bit_xor b ones)

-- n words of the rows set in a and not in b
unfoldable pub deny_words : ℕ → List ℕ → List ℕ → List ℕ
deny_words n a b = column (λ w. deny_word (get_or a w 0) (get_or b w 0)) n

-- the first six leaves take all their values within a word, the others from word to word
abbrev pub patterns : List ℕ
patterns = 0xaaaa_aaaa_aaaa_aaaa ∷ 0xcccc_cccc_cccc_cccc ∷ 0xf0f0_f0f0_f0f0_f0f0 ∷ 0xff00_ff00_ff00_ff00 ∷ 0xffff_0000_ffff_0000
    ∷ 0xffff_ffff_0000_0000 ∷ []

-- the digit of leaf j at each row of the word w
unfoldable pub leaf_word : ℕ → ℕ → ℕ
leaf_word j w = cond (ltb j 6) (get_or patterns j 0) (cond (eqb (bit w (j - 6)) 1) ones 0)

-- n words of the table of leaf j
unfoldable pub leaf_words : ℕ → ℕ → List ℕ
leaf_words j n = column (leaf_word j) n

-- the rows of word w that are among the first n
unfoldable pub mask_of : ℕ → ℕ → ℕ
mask_of n w = 2 ^ min 64 (n - 64 * w) - 1

-- none of the first n rows is set in the first words
unfoldable pub none_set : List ℕ → ℕ → ℕ → Bool
none_set a n words = all_below words (λ w. eqb (bit_and (get_or a w 0) (mask_of n w)) 0)
