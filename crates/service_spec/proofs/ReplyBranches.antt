-- The promises of the calls, one law for each way.
use mathlib.Core.Path.{◌≡◌, refl, ap, ap₂, sym, ◌∙◌, subst}
use mathlib.Core.Bool.{Bool, true, false, cond}
use mathlib.Core.List.{List, [], ◌∷◌, ◌++◌}
use mathlib.Core.Option.{Option, none, some}
use Prim.Native.Nat.{ℕ, ◌+◌, ◌≤◌, ◌<◌}
use native.Mathlib.Omega.{arith}
use lib.Dec.{eqb, ltb}
use lib.ListN.{length, get_or, get_elem?, set, drop, replicate, length-replicate}
use borrow.Author.Tests.{eq-eqb, ne_eqb}
use Rattle.checker_spec.specs.ImageVerdict.{verdict}
use Rattle.checker_spec.specs.Promise as Checked
use Rattle.trim.specs.Promise as Trimmed
use Rattle.bill_spec.specs.Promise as Billed
use Rattle.handover_spec.specs.Promise as HandedOver
use Rattle.replay_memory.specs.declared.write.Write.{Write}
use Rattle.replay_spec.specs.ReplayNumbers.{replay_of}
use Rattle.replay_machine.specs.Replayed.{Replayed}
use Rattle.replay_spec.specs.Promise as Once
use Rattle.replay_machine.specs.OutputTable.{shown_of, entries_in, table_for}
use Rattle.handover_replay.specs.ReplayAcross.{across_of}
use Rattle.handover_replay.specs.Promise as Across
use Rattle.replay_machine.specs.Answer as Replay
use Rattle.replay_machine.specs.Answer.{answer_of, numbers_of}
use Rattle.replay_machine.specs.declared.answer.Answer.{Answer}
use Rattle.bill_spec.specs.declared.tariff.Tariff.{Tariff}
use Rattle.std.proofs.Common.{Err}
use Rattle.bill_spec.specs.declared.answer.Unpriced.TheVariants.{NotAccepted, NumberAtEnd}
use Rattle.bill_spec.specs.Bill.{Answer as Billing, code_of, last_number, is_accepted, bill_of}
use Rattle.bill_spec.specs.Output.{size, code_for, numbers_for}
use Rattle.service_spec.specs.declared.rights.Right.TheVariants as Right
use Rattle.service_spec.specs.declared.rights.Denied.{Denied}
use Rattle.service_spec.specs.Account.{number_place, denied_code, admission}
use Rattle.service_spec.specs.Serving.{raised}
use Rattle.service_spec.specs.Request.{to_check, to_trim, to_bill, to_hand_over, to_replay, to_replay_across, Reply, replied, cleared, bill_reply, replay_reply}
use Rattle.service_spec.specs.Promise.{CheckServed, TrimServed, BillServed, HandoverServed, ReplayServed, AcrossServed}
use Rattle.service_spec.proofs.AccountNumbers.{read_there, read_missing}
use Rattle.service_spec.proofs.AdmissionBranches.{denied_apart}
use Rattle.service_spec.proofs.ServedByAdmission.{promise_refused, promise_admitted}

module _ (s : List ℕ) (c : ℕ) (image out : List ℕ) where
  module _ (d : Denied) (a : ℕ) (k : a ≡ denied_code d) (e : denied_code d ≡ admission Right.Check s c) where
    pub check_refused : CheckServed s c image out a out
    check_refused = promise_refused s c (to_check image out) (Checked.Promise image out a out) a (k ∙ e) (λ z. denied_apart d (sym k ∙ z))

    pub trim_refused : TrimServed s c image out a 0 out
    trim_refused = promise_refused s c (to_trim image out) (Trimmed.Promise image out a 0 out) a (k ∙ e) (λ z. denied_apart d (sym k ∙ z))

  pub check_served : (r : ℕ) (after : List ℕ) → admission Right.Check s c ≡ 0 → Checked.Promise image out r after
      → CheckServed s c image out r after
  check_served r after z p = promise_admitted s c (to_check image out) (Checked.Promise image out r after) s (replied r after [])
      z refl
      (ap₂ (λ (x : ℕ) (y : List ℕ). replied x y []) p.returned p.written) p

  pub trim_served : (r n : ℕ) (after : List ℕ) → admission Right.Check s c ≡ 0 → Trimmed.Promise image out r n after
      → TrimServed s c image out r n after
  trim_served r n after z p = promise_admitted s c (to_trim image out) (Trimmed.Promise image out r n after) s (replied r after (n ∷ []))
      z refl
      (rw (p.returned, p.bytes, p.told)) p

module _ (s : List ℕ) (c : ℕ) (old new table : List ℕ) where
  pub handover_refused : (d : Denied) (a : ℕ) → a ≡ denied_code d → denied_code d ≡ admission Right.Check s c → HandoverServed s c old new table a
  handover_refused d a k e = promise_refused s c (to_hand_over old new table) (HandedOver.Promise old new table a) a (k ∙ e)
      (λ z. denied_apart d (sym k ∙ z))

  pub handover_served : (r : ℕ) → admission Right.Check s c ≡ 0 → HandedOver.Promise old new table r → HandoverServed s c old new table r
  handover_served r z p = promise_admitted s c (to_hand_over old new table) (HandedOver.Promise old new table r) s (replied r [] [])
      z refl
      (ap (λ (x : ℕ). replied x [] []) p.returned) p

pub ruleset entry_serving = (check_refused, check_served, trim_refused, trim_served, handover_refused, handover_served)

-- an answer's numbers, all 0
pub zeros_cleared : (n : ℕ) (room zeros after : List ℕ) → zeros ≡ replicate n 0
    → after ≡ cond (ltb (length room) (length zeros)) room (zeros ++ drop (length zeros) room) → after ≡ cleared n room
unfolding cleared
zeros_cleared n room zeros after e d = rw (e, length-replicate {A = ℕ} n 0) at d

module _ (image : List ℕ) (f : Tariff) (n : ℕ) (room : List ℕ) (code : ℕ) (after : List ℕ)
    (w : Billed.Written image f n room code after) where
  written_reply : replied code [] after ≡ bill_reply image f room (some n)
  written_reply =
      ap₂ (λ (x : ℕ) (y : List ℕ). replied x [] y) (w.returned ∙ ap (λ (b : Billing). code_for b room) w.right.answer)
      (w.written ∙ ap (λ (b : Billing). numbers_for n b room) w.right.answer)

  -- without an error the number was not at its end
  pub number_goes_on : code ≡ 0 → n ≡ last_number → ⊥
  unfolding bill_of code_for
  number_goes_on z q =
      let at_end : bill_of image f n ≡ cond (is_accepted (verdict image)) (Err NumberAtEnd) (Err NotAccepted) = rw
      (eq-eqb n last_number q) in
      let same = w.returned ∙ ap (λ (b : Billing). code_for b room) (w.right.answer ∙ at_end) in
      go (ltb (length room) size) (is_accepted (verdict image)) (sym same ∙ z)
    where
      go : (i j : Bool) → cond i 1 (code_of (cond j (Err NumberAtEnd) (Err NotAccepted))) ≡ 0 → ⊥
      go true j g = omega arith
      go false true g = omega arith
      go false false g = omega arith

-- by the caller's own number: it is not there; the bill has an error; it has none

module _ (s : List ℕ) (c : ℕ) (image : List ℕ) (f : Tariff) (room : List ℕ) (e : admission Right.Bill s c ≡ 0) where
  pub bill_missing : length s ≤ number_place c → BillServed s c image f room s 1 room
  bill_missing h = promise_admitted s c (to_bill image f room)
      ((n : ℕ) → get_elem? s (number_place c) ≡ some n → Billed.Written image f n room 1 room)
      s (replied 1 [] room) e (rw (read_missing s (number_place c) h)) (rw (read_missing s (number_place c) h))
      (λ n q. let g = read_missing s (number_place c) h in let x : ◌≡◌ {A = ℕ} 0 1 = cc in absurd (omega arith))

  module _ (h : number_place c < length s) (n code : ℕ) (after : List ℕ) (q : n ≡ get_or s (number_place c) 0)
      (w : Billed.Written image f n room code after) where
    there : get_elem? s (number_place c) ≡ some n
    there = read_there s (number_place c) h ∙ ap (λ (m : ℕ). some m) (sym q)

    replies : replied code [] after ≡ bill_reply image f room (get_elem? s (number_place c))
    replies = rw there (written_reply image f n room code after w)

    by_number : (left : List ℕ) → left ≡ cond (eqb code 0) (raised s c) s → BillServed s c image f room left code after
    by_number left k = promise_admitted s c (to_bill image f room)
        ((m : ℕ) → get_elem? s (number_place c) ≡ some m → Billed.Written image f m room code after)
        left (replied code [] after) e (k ∙ ap (λ (r : Reply). cond (eqb r.code 0) (raised s c) s) replies) replies
        (λ m g. let x : n ≡ m = some_same n m (sym there ∙ g) in subst (λ (y : ℕ). Billed.Written image f y room code after) x w)
      where
        number : Option ℕ → ℕ
        number none = 0
        number (some y) = y

        some_same : (x y : ℕ) → some x ≡ some y → x ≡ y
        some_same x y g = ap number g

    pub bill_failed : (code ≡ 0 → ⊥) → BillServed s c image f room s code after
    bill_failed z = by_number s (rw (ne_eqb code 0 z))

    pub bill_counted : code ≡ 0 → BillServed s c image f room (set s (number_place c) (n + 1)) 0 after
    unfolding raised
    bill_counted z = subst (λ (y : ℕ). BillServed s c image f room (set s (number_place c) (n + 1)) y after) z
        (by_number (set s (number_place c) (n + 1)) (rw (eq-eqb code 0 z, ← q)))

pub bill_refused : (s : List ℕ) (c : ℕ) (image : List ℕ) (f : Tariff) (room after : List ℕ) (d : Denied) (a : ℕ) → a ≡ denied_code d
    → denied_code d ≡ admission Right.Bill s c → after ≡ cleared size room
    → BillServed s c image f room s a after
bill_refused s c image f room after d a k e g = subst (λ (x : List ℕ). BillServed s c image f room s a x) (sym g)
    (promise_refused s c (to_bill image f room)
    ((n : ℕ) → get_elem? s (number_place c) ≡ some n → Billed.Written image f n room a (cleared size room)) a (k ∙ e)
    (λ z. denied_apart d (sym k ∙ z)))

-- a reply by a replay's answer and the writes that the table is given
replay-reply : (r : Replayed) (table room : List ℕ) (b : Answer) (shown : List Write) (code : ℕ) (after told : List ℕ) → b ≡ answer_of r
    → shown ≡ shown_of r (entries_in table)
    → code ≡ Replay.code_for b room → after ≡ table_for shown room table → told ≡ Replay.numbers_for b room
    → replied code after told ≡ replay_reply r table room
replay-reply r table room b shown code after told eb es ec ea et = rw (ec, ea, et, eb, es)

module _ (s : List ℕ) (c : ℕ) where
  module _ (image trace given table room : List ℕ) where
    pub replay_refused : (told : List ℕ) (d : Denied) (a : ℕ) → a ≡ denied_code d → denied_code d ≡ admission Right.Replay s c
        → told ≡ cleared Replay.size room
        → ReplayServed s c image trace given table room a table told
    replay_refused told d a k e g = subst (λ (x : List ℕ). ReplayServed s c image trace given table room a table x) (sym g)
        (promise_refused s c (to_replay image trace given table room)
        (Once.Written image trace given table room a table (cleared Replay.size room)) a (k ∙ e) (λ z. denied_apart d (sym k ∙ z)))

    pub replay_served : (r : ℕ) (after told : List ℕ) → admission Right.Replay s c ≡ 0 → Once.Written image trace given table room r after told
        → ReplayServed s c image trace given table room r after told
    replay_served r after told z w = promise_admitted s c (to_replay image trace given table room)
        (Once.Written image trace given table room r after told)
        s (replied r after told) z refl
        (replay-reply (replay_of image trace given (entries_in table)) table room w.answer w.shown r after told w.right.answer
        w.right.table w.returned w.bytes w.numbers) w

  module _ (old new points first second given table room : List ℕ) where
    pub across_refused : (told : List ℕ) (d : Denied) (a : ℕ) → a ≡ denied_code d → denied_code d ≡ admission Right.Replay s c
        → told ≡ cleared Replay.size room
        → AcrossServed s c old new points first second given table room a table told
    across_refused told d a k e g = subst (λ (x : List ℕ). AcrossServed s c old new points first second given table room a table x) (sym g)
        (promise_refused s c (to_replay_across old new points first second given table room)
        (Across.Written old new points first second given table room a table (cleared Replay.size room)) a (k ∙ e)
        (λ z. denied_apart d (sym k ∙ z)))

    pub across_served : (r : ℕ) (after told : List ℕ) → admission Right.Replay s c ≡ 0
        → Across.Written old new points first second given table room r after told
        → AcrossServed s c old new points first second given table room r after told
    across_served r after told z w = promise_admitted s c (to_replay_across old new points first second given table room)
        (Across.Written old new points first second given table room r after told) s (replied r after told) z refl
        (replay-reply (across_of old new points first second given (entries_in table)) table room w.answer w.shown r after told
        w.right.answer w.right.table w.returned w.bytes
        w.numbers) w

pub ruleset entry_replaying = (replay_refused, replay_served, across_refused, across_served)
