-- What callers ask for, and the replies: of the calls without a service, and of the service.
use Rattle.std.specs.Prelude.{Bool, true, false, cond, ◌&&◌, List, [], ◌∷◌, ◌++◌, ℕ, eqb, ltb, length, drop, replicate}
use Rattle.std.proofs.Math.Option.{Option, none, some}
use Rattle.verdict_record.specs.Output as Verdict
use Rattle.checker_spec.specs.ImageVerdict.{verdict}
use Rattle.trim_encode.specs.Answer.{answer_for, code_of, length_of, buffer_for}
use Rattle.bill_spec.specs.declared.tariff.Tariff.{Tariff}
use Rattle.bill_spec.specs.Bill.{bill_of}
use Rattle.bill_spec.specs.Output.{size, code_for, numbers_for}
use Rattle.handover_spec.specs.Code.{handover_code}
use Rattle.replay_spec.specs.ReplayNumbers.{replay_of}
use Rattle.replay_machine.specs.Replayed.{Replayed}
use Rattle.replay_machine.specs.Answer as Replay
use Rattle.replay_machine.specs.Answer.{answer_of}
use Rattle.replay_machine.specs.OutputTable.{shown_of, entries_in, table_for}
use Rattle.handover_replay.specs.ReplayAcross.{across_of}
use Rattle.service_spec.specs.declared.rights.Right.{Right}
use Rattle.service_spec.specs.declared.rights.Right.TheVariants.{Check, Replay, Bill}
use Rattle.service_spec.specs.Account.{Account, holds}
use Rattle.service_spec.specs.Serving.{Call, Served, Turn, Conduct, serve_by, serve_all_by}

-- a call with all that the caller passes
pub data Request : Type 0 where
  -- an image, and the buffer for its verdict or for the trimmed image
  to_check to_trim : List ℕ → List ℕ → Request
  -- an image, a tariff, and the buffer for the bill's numbers
  to_bill : List ℕ → Tariff → List ℕ → Request
  -- two images and the handover table
  to_hand_over : List ℕ → List ℕ → List ℕ → Request
  -- an image, a trace, given registers, the table of writes, and the buffer for the answer's numbers
  to_replay : List ℕ → List ℕ → List ℕ → List ℕ → List ℕ → Request
  -- two images, the handover table, two traces, and the rest as in a replay
  to_replay_across : List ℕ → List ℕ → List ℕ → List ℕ → List ℕ → List ℕ → List ℕ → List ℕ → Request

-- the code, and what the buffer and the numbers of the answer hold afterwards; [] where the call has none
pub record Reply : Type 0 where
  pub code : ℕ
  pub buffer : List ℕ
  pub numbers : List ℕ

-- the reply with these three
abbrev pub replied : ℕ → List ℕ → List ℕ → Reply
replied code buffer numbers = record { code = code; buffer = buffer; numbers = numbers }

-- "check (also trimming and permitting a handover), replay (also across one), bill"
abbrev pub right_for : Request → Right
right_for (to_check image buffer) = Check
right_for (to_trim image buffer) = Check
right_for (to_bill image f room) = Bill
right_for (to_hand_over old new table) = Check
right_for (to_replay image trace given table room) = Replay
right_for (to_replay_across old new points first second given table room) = Replay

-- whether the request is for a bill, which may raise the caller's number
abbrev pub is_bill : Request → Bool
is_bill (to_check image buffer) = false
is_bill (to_trim image buffer) = false
is_bill (to_bill image f room) = true
is_bill (to_hand_over old new table) = false
is_bill (to_replay image trace given table room) = false
is_bill (to_replay_across old new points first second given table room) = false

-- a buffer with n zeros in front; one that is too short for them stays, and so do the numbers behind
unfoldable pub cleared : ℕ → List ℕ → List ℕ
cleared n room = cond (ltb (length room) n) room (replicate n 0 ++ drop n room)

-- 35 and 36: "neither changes a number or a buffer; the rest of the answer is 0"
abbrev pub refused : ℕ → Request → Reply
refused code (to_check image buffer) = replied code buffer []
refused code (to_trim image buffer) = replied code buffer (0 ∷ [])
refused code (to_bill image f room) = replied code [] (cleared size room)
refused code (to_hand_over old new table) = replied code [] []
refused code (to_replay image trace given table room) = replied code table (cleared Replay.size room)
refused code (to_replay_across old new points first second given table room) = replied code table (cleared Replay.size room)

-- the bill by the caller's own number; 1 if the service is too short to have it
abbrev pub bill_reply : List ℕ → Tariff → List ℕ → Option ℕ → Reply
bill_reply image f room none = replied 1 [] room
bill_reply image f room (some n) = replied (code_for (bill_of image f n) room) [] (numbers_for n (bill_of image f n) room)

-- the code, the table and the numbers of a replay
abbrev pub replay_reply : Replayed → List ℕ → List ℕ → Reply
replay_reply r table room =
    replied (Replay.code_for (answer_of r) room) (table_for (shown_of r (entries_in table)) room table) (Replay.numbers_for (answer_of r) room)

-- the call without a service, n images being billed before
abbrev pub answered : Option ℕ → Request → Reply
answered n (to_check image buffer) = replied (Verdict.code_for (verdict image) buffer) (Verdict.bytes_for (verdict image) buffer) []
answered n (to_trim image buffer) = replied (code_of (answer_for image buffer)) (buffer_for image buffer) (length_of (answer_for image buffer) ∷ [])
answered n (to_bill image f room) = bill_reply image f room n
answered n (to_hand_over old new table) = replied (handover_code old new table) [] []
answered n (to_replay image trace given table room) = replay_reply (replay_of image trace given (entries_in table)) table room
answered n (to_replay_across old new points first second given table room) = replay_reply
    (across_of old new points first second given (entries_in table)) table room

-- 36 "before any other check of the call"; d is the caller's account
abbrev pub reply_to : Account → Request → Reply
reply_to d q = cond (holds (right_for q) d.rights) (answered d.number q) (refused 36 q)

-- how the service answers: "each bill without an error adds one" to the caller's number
abbrev pub conduct : Conduct Request Reply
conduct = record {
  unknown = refused 35;
  reply = reply_to;
  counted = λ d q. is_bill q && eqb (reply_to d q).code 0;
}

-- a service and a call: the service afterwards, and the reply
abbrev pub serve : List ℕ → Call Request → Served Reply
serve = serve_by conduct

-- the turns of a list of calls, one after the other
abbrev pub serve_all : List ℕ → List (Call Request) → List (Turn Reply)
serve_all = serve_all_by conduct
