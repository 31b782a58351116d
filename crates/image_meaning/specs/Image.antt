-- What an image means: a fault with its record, or program, outline, certificate, the lines that its obligations name, and claims.
use Rattle.std.specs.Prelude.{List, [], ℕ, ◌+◌, get_or, drop, Ok, Err}
use Rattle.limits.specs.Numbers.{le16, numbers}
use Rattle.image_frames.specs.declared.fault.Fault.{Fault}
use Rattle.image_frames.specs.Records.{bodies}
use Rattle.image_header.specs.declared.sizes.Sizes.{Sizes}
use Rattle.image_bodies.specs.PointCounts.{obligation_count}
use Rattle.image.specs.Decode.{decoded, Decoded}
use Rattle.logic.specs.Claims.{Claim}
use Rattle.logic_outline.specs.Verdict.{Claims, Image}
use Rattle.image_meaning.specs.Program.{program_of, outline_of}
use Rattle.image_meaning.specs.Certificate.{certificate_of}

-- the record number of claim i, counted from 1; claims count from 0
unfoldable pub claim_place : Sizes → ℕ → ℕ
claim_place z i = z.formulas + z.threads + z.lines + 4 + i

-- "thread, point, other thread, other point"
abbrev pub claim_in : List ℕ → Claim
claim_in b = record { thread = get_or b 0 0; point = get_or b 1 0; other = get_or b 2 0; other_point = get_or b 3 0 }

module _ (z : Sizes) (l : List (List ℕ)) where
  -- the obligations record, after the lines
  abbrev pub obligations_body : List ℕ
  obligations_body = get_or l (z.formulas + z.threads + 1 + z.lines + 1) []

  -- the line that obligation i names: "a line number per obligation, 0 for none"
  unfoldable pub named_line : ℕ → ℕ
  named_line i = get_or (numbers (obligation_count z l) obligations_body) i 0

  -- the body of claim i: claims are the last records and count from 0 here
  unfoldable pub claim_body : ℕ → List ℕ
  claim_body i = get_or l (z.formulas + z.threads + 1 + z.lines + 2 + i) []

  -- the claims: two threads are never at named points together (mutual exclusion of program points)
  abbrev pub claims_of : Claims
  claims_of = record { count = z.claims; claim = λ i. claim_in (claim_body i); line = λ i. le16 (drop 4 (claim_body i)); place = claim_place z }

  -- all that an image says
  abbrev pub image_of : Image
  image_of = record {
    program = program_of z l;
    outline = outline_of z l;
    certificate = certificate_of z l;
    named = named_line;
    claims = claims_of;
  }

-- a fault and its record, or what the image says
pub data Result : Type 0 where
  refused : Fault → ℕ → Result
  read : Image → Result

-- what the image says, if it is well-formed
abbrev pub result_of : List (List ℕ) → Decoded → Result
result_of l (Err r) = refused r.fault r.«record»
result_of l (Ok z) = read (image_of z l)

-- the bytes of an image to what it says
unfoldable pub decode : List ℕ → Result
decode s = result_of (bodies s) (decoded s)
