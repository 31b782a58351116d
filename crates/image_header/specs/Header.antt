-- Record 1, the header: threads, words, registers, value range, start values, owners and start marks.
use Rattle.std.specs.Prelude.{Bool, true, cond, ◌&&◌, List, ℕ, ◌+◌, ◌-◌, eqb, length, get_or, take, drop}
use Rattle.limits.specs.Limits as Limits
use Rattle.limits.specs.Numbers.{has, nth, within, every}
use Rattle.image_frames.specs.Fault.{Checked, passed, unless}
use Rattle.image_frames.specs.declared.fault.Fault.TheVariants.{Body, Number}

-- the number of threads
abbrev pub thread_count : List ℕ → ℕ
thread_count b = get_or b 0 0

-- the number of words
abbrev pub word_count : List ℕ → ℕ
word_count b = get_or b 1 0

-- the number of registers
abbrev pub register_count : List ℕ → ℕ
register_count b = get_or b 2 0

-- the value range: "2 to 16 values", 0 to one below it
abbrev pub value_range : List ℕ → ℕ
value_range b = get_or b 3 0

-- the counts are within their limits, and t thread records were counted
unfoldable pub counted : ℕ → List ℕ → Bool
counted t b =
    within t t (thread_count b)
    && (within 1 Limits.threads (thread_count b)
    && (within 1 Limits.words (word_count b)
    && (within 0 Limits.registers (register_count b) && within Limits.fewest_values Limits.most_values (value_range b))))

-- "a start value per word"
unfoldable pub start_values : List ℕ → List ℕ
start_values b = take (word_count b) (drop 4 b)

-- "an owning thread per register"
unfoldable pub owners : List ℕ → List ℕ
owners b = take (register_count b) (drop (4 + word_count b) b)

-- "a byte per register after the owners: 1 starts at 0, 0 starts anywhere"
unfoldable pub marks : List ℕ → List ℕ
marks b = take (register_count b) (drop (4 + word_count b + register_count b) b)

-- register r starts at 0; so does one that is not there
unfoldable pub cleared : List ℕ → ℕ → Bool
cleared b r = cond (within 1 (length (marks b)) r) (eqb (nth (marks b) r 0) 1) true

-- every number is in its range; start values are below the value range
unfoldable pub headed : ℕ → List ℕ → Bool
headed t b =
    counted t b
    && (every (within 0 (value_range b - 1)) (start_values b)
    && (every (within 1 (thread_count b)) (owners b) && every (within 0 1) (marks b)))

-- the length "by the counts as written"
unfoldable pub header_size : List ℕ → ℕ
header_size b = 4 + word_count b + register_count b + register_count b

-- code 5, then code 6
unfoldable pub header : ℕ → List ℕ → Checked
header t b = unless (has 4 b) Body (unless (eqb (length b) (header_size b)) Body (unless (headed t b) Number passed))
