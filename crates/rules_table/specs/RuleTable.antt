-- The table of rules as the code has it: what `rule_at` and `all_templates` return.
use Rattle.std.specs.Prelude.{Bool, List, [], ◌∷◌, ℕ, suc, ◌+◌, eqb, get_or}
use Rattle.rules_table.specs.declared.rule.Form.{Form}
use Rattle.rules_table.specs.declared.rule.Form.TheVariants.{Inclusion, Implication, Triple, Pair, Unlisted, Other}
use Rattle.rules_table.specs.declared.rule.Rule.{Rule}
use Rattle.rules_table.specs.declared.rule.Side.{Side}
use Rattle.rules_table.specs.declared.rule.Side.TheVariants.{Nothing, Kept, Assigned, Loaded, WordAbsent, Stored, ByRows, ByTable, StartValue, NewValue, StartsAtZero}

-- the number of a form: in the packed forms of premises, and on trees
abbrev pub form_number : Form → ℕ
form_number Inclusion = 0
form_number Implication = 1
form_number Triple = 2
form_number Pair = 3
form_number Unlisted = 4
form_number (Other n) = suc (suc (suc (suc (suc n))))

-- the form with a number
abbrev pub form_numbered : ℕ → Form
form_numbered n = get_or (Inclusion ∷ Implication ∷ Triple ∷ Pair ∷ []) n Unlisted

-- two forms are the same
abbrev pub same_form : Form → Form → Bool
same_form f g = eqb (form_number f) (form_number g)

-- a number for each side condition
abbrev pub side_number : Side → ℕ
side_number Nothing = 0
side_number Kept = 1
side_number Assigned = 2
side_number Loaded = 3
side_number WordAbsent = 4
side_number Stored = 5
side_number ByRows = 6
side_number ByTable = 7
side_number StartValue = 8
side_number NewValue = 9
side_number StartsAtZero = 10

-- the side condition with a number; past the last one it is that of rules 8 and 13
abbrev pub side_numbered : ℕ → Side
side_numbered n =
    get_or
    (Nothing ∷ Kept ∷ Assigned ∷ Loaded ∷ WordAbsent ∷ Stored ∷ ByRows ∷ ByTable ∷ StartValue ∷ NewValue ∷ StartsAtZero ∷ [])
    n
    WordAbsent

-- the premise count of rule 20, which has 0 to 4 implications
abbrev pub any_implications : ℕ
any_implications = 5

-- implications and inclusions are about no instruction
abbrev pub none : ℕ
none = 0

-- sets of operations, bit k for operation k: 0 and 12, an assignment and two at once
abbrev pub assignments : ℕ
assignments = 1 + 4096

-- operation 2
abbrev pub acquiring_load : ℕ
acquiring_load = 4

-- operations 1 and 2
abbrev pub loads : ℕ
loads = 2 + acquiring_load

-- operation 4
abbrev pub releasing_store : ℕ
releasing_store = 16

-- operations 3 and 4
abbrev pub stores : ℕ
stores = 8 + releasing_store

-- operation 5, which drops the old value
abbrev pub swap : ℕ
swap = 32

-- operations 7 and 8: exchange and fetch-add
abbrev pub updates : ℕ
updates = 128 + 256

-- operations 9, 10 and 11: a store or a swap, and an assignment in the same step
abbrev pub pairs : ℕ
pairs = 512 + (1024 + 2048)

abbrev pub read_modify_writes : ℕ
read_modify_writes = swap + updates

-- what joins the stored view of a releasing write
abbrev pub acquires : ℕ
acquires = acquiring_load + read_modify_writes

abbrev pub stores_and_swap : ℕ
stores_and_swap = stores + swap

abbrev pub writes : ℕ
writes = stores + read_modify_writes

-- what touches a shared word
abbrev pub accesses : ℕ
accesses = loads + writes

abbrev pub all_but_pairs : ℕ
all_but_pairs = assignments + accesses

-- a row of the table
abbrev pub rule : Form → ℕ → ℕ → ℕ → ℕ → Side → Rule
rule form template premises forms operations side =
    record { form = form; template = template; premises = premises; forms = forms; operations = operations; side = side }

-- the row of a number that no rule has
abbrev pub unlisted : Rule
unlisted = rule Unlisted 0 0 0 none Nothing

-- the rows by rule number, from 0
abbrev pub rows : List Rule
rows =
    unlisted ∷
    rule Triple 0 0 0 accesses Kept ∷
    rule Triple 2 0 0 assignments Assigned ∷
    rule Triple 4 0 0 loads Loaded ∷
    rule Triple 10 1 2 loads Loaded ∷
    rule Triple 24 1 2 acquires Nothing ∷
    rule Triple 36 0 0 stores Nothing ∷
    rule Triple 50 0 0 stores Nothing ∷
    rule Triple 70 0 0 releasing_store WordAbsent ∷
    rule Triple 91 0 0 stores_and_swap Stored ∷
    rule Triple 104 1 2 writes Nothing ∷
    rule Triple 116 0 0 swap Nothing ∷
    rule Triple 134 0 0 swap Nothing ∷
    rule Triple 165 0 0 read_modify_writes WordAbsent ∷
    rule Triple 197 2 10 all_but_pairs Nothing ∷
    rule Triple 207 2 10 all_but_pairs Nothing ∷
    rule Triple 217 3 25 all_but_pairs Nothing ∷
    unlisted ∷
    unlisted ∷
    unlisted ∷
    rule Implication 225 any_implications 0 none ByTable ∷
    rule Implication 227 0 0 none ByRows ∷
    rule Implication 231 1 0 none Nothing ∷
    rule Implication 239 0 0 none ByRows ∷
    rule Implication 245 0 0 none ByRows ∷
    rule Implication 251 0 0 none Nothing ∷
    rule Implication 263 0 0 none StartValue ∷
    rule Implication 274 0 0 none StartsAtZero ∷
    unlisted ∷
    unlisted ∷
    rule Inclusion 281 0 0 none ByRows ∷
    rule Inclusion 285 2 0 none Nothing ∷
    rule Inclusion 291 2 0 none Nothing ∷
    rule Inclusion 301 0 0 none Nothing ∷
    rule Inclusion 311 0 0 none Nothing ∷
    rule Inclusion 321 0 0 none Nothing ∷
    rule Inclusion 325 0 0 none Nothing ∷
    rule Inclusion 329 0 0 none Nothing ∷
    rule Inclusion 336 0 0 none Nothing ∷
    rule Inclusion 348 0 0 none Nothing ∷
    rule Inclusion 352 0 0 none Nothing ∷
    rule Inclusion 356 2 0 none Nothing ∷
    rule Inclusion 364 0 0 none Nothing ∷
    rule Inclusion 368 0 0 none Nothing ∷
    rule Inclusion 372 2 0 none Nothing ∷
    rule Inclusion 380 0 0 none Nothing ∷
    rule Inclusion 389 0 0 none Nothing ∷
    rule Triple 4 0 0 updates Loaded ∷
    rule Triple 391 0 0 updates NewValue ∷
    rule Triple 409 0 0 updates NewValue ∷
    rule Pair 440 1 2 pairs Assigned ∷
    []

-- the row of the rule with number n
unfoldable pub rule_row : ℕ → Rule
rule_row n = get_or rows n unlisted

-- the templates of all rules as bytes, one after another
abbrev pub templates : List ℕ
templates =
    64 ∷ 64 ∷ 64 ∷ 65 ∷ 24 ∷ 0 ∷ 16 ∷ 67 ∷ 28 ∷ 66 ∷ 24 ∷ 0 ∷ 18 ∷ 16 ∷ 67 ∷ 64 ∷ 26 ∷ 28 ∷ 66 ∷ 65 ∷ 24 ∷ 0 ∷ 64 ∷ 65 ∷
    24 ∷ 0 ∷ 18 ∷ 16 ∷ 14 ∷ 1 ∷ 64 ∷ 65 ∷ 24 ∷ 0 ∷ 64 ∷ 65 ∷ 24 ∷ 0 ∷ 17 ∷ 1 ∷ 24 ∷ 0 ∷ 19 ∷ 17 ∷ 1 ∷ 16 ∷ 9 ∷ 2 ∷
    1 ∷ 68 ∷ 25 ∷ 24 ∷ 0 ∷ 17 ∷ 1 ∷ 24 ∷ 3 ∷ 64 ∷ 24 ∷ 3 ∷ 18 ∷ 64 ∷ 19 ∷ 17 ∷ 1 ∷ 16 ∷ 9 ∷ 2 ∷ 1 ∷ 68 ∷ 25 ∷ 24 ∷
    0 ∷ 17 ∷ 1 ∷ 25 ∷ 24 ∷ 3 ∷ 64 ∷ 24 ∷ 0 ∷ 65 ∷ 24 ∷ 3 ∷ 18 ∷ 64 ∷ 18 ∷ 16 ∷ 14 ∷ 1 ∷ 65 ∷ 25 ∷ 24 ∷ 3 ∷ 16 ∷ 66 ∷
    24 ∷ 3 ∷ 16 ∷ 67 ∷ 24 ∷ 3 ∷ 16 ∷ 66 ∷ 24 ∷ 0 ∷ 18 ∷ 16 ∷ 15 ∷ 1 ∷ 64 ∷ 65 ∷ 24 ∷ 0 ∷ 64 ∷ 65 ∷ 24 ∷ 0 ∷ 18 ∷ 16 ∷
    15 ∷ 1 ∷ 17 ∷ 1 ∷ 24 ∷ 0 ∷ 19 ∷ 17 ∷ 1 ∷ 16 ∷ 9 ∷ 2 ∷ 1 ∷ 68 ∷ 25 ∷ 24 ∷ 0 ∷ 18 ∷ 16 ∷ 15 ∷ 1 ∷ 17 ∷ 1 ∷ 24 ∷
    3 ∷ 18 ∷ 16 ∷ 15 ∷ 1 ∷ 17 ∷ 1 ∷ 24 ∷ 3 ∷ 18 ∷ 16 ∷ 15 ∷ 1 ∷ 19 ∷ 17 ∷ 1 ∷ 16 ∷ 9 ∷ 2 ∷ 1 ∷ 68 ∷ 25 ∷ 24 ∷ 0 ∷
    18 ∷ 16 ∷ 15 ∷ 1 ∷ 17 ∷ 1 ∷ 25 ∷ 24 ∷ 3 ∷ 18 ∷ 16 ∷ 15 ∷ 1 ∷ 17 ∷ 1 ∷ 24 ∷ 0 ∷ 65 ∷ 24 ∷ 3 ∷ 18 ∷ 16 ∷ 15 ∷ 1 ∷
    18 ∷ 16 ∷ 14 ∷ 1 ∷ 65 ∷ 25 ∷ 64 ∷ 65 ∷ 25 ∷ 66 ∷ 67 ∷ 64 ∷ 66 ∷ 65 ∷ 67 ∷ 26 ∷ 64 ∷ 65 ∷ 26 ∷ 66 ∷ 67 ∷ 64 ∷ 66 ∷ 65 ∷
    67 ∷ 64 ∷ 67 ∷ 64 ∷ 65 ∷ 65 ∷ 66 ∷ 66 ∷ 67 ∷ 64 ∷ 65 ∷ 28 ∷ 66 ∷ 28 ∷ 67 ∷ 24 ∷ 3 ∷ 64 ∷ 24 ∷ 3 ∷ 65 ∷ 64 ∷ 65 ∷ 24 ∷
    3 ∷ 16 ∷ 66 ∷ 28 ∷ 67 ∷ 28 ∷ 66 ∷ 24 ∷ 3 ∷ 16 ∷ 67 ∷ 25 ∷ 24 ∷ 3 ∷ 64 ∷ 24 ∷ 3 ∷ 65 ∷ 24 ∷ 3 ∷ 19 ∷ 64 ∷ 65 ∷ 27 ∷
    24 ∷ 3 ∷ 19 ∷ 17 ∷ 4 ∷ 16 ∷ 9 ∷ 2 ∷ 4 ∷ 64 ∷ 27 ∷ 28 ∷ 9 ∷ 1 ∷ 4 ∷ 0 ∷ 8 ∷ 16 ∷ 66 ∷ 16 ∷ 67 ∷ 64 ∷ 66 ∷ 64 ∷
    65 ∷ 65 ∷ 66 ∷ 18 ∷ 64 ∷ 66 ∷ 18 ∷ 65 ∷ 67 ∷ 64 ∷ 65 ∷ 66 ∷ 67 ∷ 18 ∷ 18 ∷ 64 ∷ 65 ∷ 66 ∷ 18 ∷ 64 ∷ 18 ∷ 65 ∷ 66 ∷ 18 ∷
    64 ∷ 18 ∷ 65 ∷ 66 ∷ 18 ∷ 18 ∷ 64 ∷ 65 ∷ 66 ∷ 65 ∷ 18 ∷ 64 ∷ 65 ∷ 64 ∷ 18 ∷ 64 ∷ 65 ∷ 18 ∷ 16 ∷ 66 ∷ 16 ∷ 66 ∷ 16 ∷ 66 ∷
    19 ∷ 66 ∷ 18 ∷ 64 ∷ 65 ∷ 18 ∷ 19 ∷ 66 ∷ 64 ∷ 19 ∷ 66 ∷ 65 ∷ 19 ∷ 64 ∷ 65 ∷ 64 ∷ 19 ∷ 64 ∷ 65 ∷ 65 ∷ 64 ∷ 19 ∷ 65 ∷ 66 ∷
    64 ∷ 65 ∷ 64 ∷ 66 ∷ 64 ∷ 20 ∷ 64 ∷ 65 ∷ 65 ∷ 20 ∷ 64 ∷ 65 ∷ 20 ∷ 64 ∷ 65 ∷ 66 ∷ 64 ∷ 66 ∷ 65 ∷ 66 ∷ 19 ∷ 16 ∷ 66 ∷ 16 ∷
    67 ∷ 16 ∷ 12 ∷ 66 ∷ 67 ∷ 64 ∷ 64 ∷ 24 ∷ 0 ∷ 18 ∷ 16 ∷ 15 ∷ 1 ∷ 17 ∷ 1 ∷ 24 ∷ 0 ∷ 19 ∷ 17 ∷ 1 ∷ 16 ∷ 9 ∷ 2 ∷ 1 ∷
    64 ∷ 25 ∷ 24 ∷ 0 ∷ 18 ∷ 16 ∷ 15 ∷ 1 ∷ 17 ∷ 1 ∷ 24 ∷ 3 ∷ 18 ∷ 16 ∷ 15 ∷ 1 ∷ 17 ∷ 1 ∷ 24 ∷ 3 ∷ 18 ∷ 16 ∷ 15 ∷ 1 ∷
    19 ∷ 17 ∷ 1 ∷ 16 ∷ 9 ∷ 2 ∷ 1 ∷ 64 ∷ 66 ∷ 65 ∷ 66 ∷ 64 ∷
    []
