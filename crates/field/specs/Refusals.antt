-- The refusals as the code has them, with the number that the papers give each.
use Rattle.std.specs.Prelude.{ℕ, Option, Some, None, Result, Ok, Err}
use Rattle.field.specs.declared.Refusal.{Refusal}
use Rattle.field.specs.declared.Header.{Header}
use Rattle.field.specs.declared.BadHeader.{BadHeader}
use Rattle.field.specs.declared.Refusal.TheVariants.{ShortBuffer, ShortHeader, UnknownTag, WrongLength, ShortPayload, NoSupply, ValueNotListed, BadList}

-- 1 the reply buffer is too short; 2 fewer bytes than a header has; 3 no such tag; 4 a length that the tag does not
-- have; 5 an incomplete payload; 6 no supply at the address; 7 a value that is not listed; 8 the fitting list
abbrev pub refusal_number : Refusal → ℕ
refusal_number ShortBuffer = 1
refusal_number ShortHeader = 2
refusal_number UnknownTag = 3
refusal_number WrongLength = 4
refusal_number ShortPayload = 5
refusal_number NoSupply = 6
refusal_number ValueNotListed = 7
refusal_number BadList = 8

-- a header as the papers number it: 0 where it is not refused, otherwise the number of the refusal
abbrev pub header_told : Result Header BadHeader → ℕ
header_told (Ok h) = 0
header_told (Err bad) = refusal_number bad.refusal

-- the header that is told, refused or not
abbrev pub header_in : Result Header BadHeader → Header
header_in (Ok h) = h
header_in (Err bad) = bad.header

-- and so a refusal, or none
abbrev pub refusal_code : Option Refusal → ℕ
refusal_code None = 0
refusal_code (Some e) = refusal_number e
