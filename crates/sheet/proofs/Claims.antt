-- The claims of specs/Claims.antt hold.
use mathlib.Core.Path.{refl, sym, ap, ◌∙◌}
use native.Mathlib.Omega.{arith}
use Rattle.machine.specs.Limits.{highest_label}
use Rattle.image.proofs.Image.{image_listed}
use Rattle.monitor.specs.CallList.{final_image}
use Rattle.monitor.proofs.Calls.{observer_listed, observer_number_lem, numbers_by_cause, limit_exactly, tell_the_same}
use Rattle.monitor.proofs.Secrecy.{equal_bytes, states_same}
use Rattle.monitor.proofs.Claims.{secrecy}
use Rattle.sheet.specs.Sheet.{sheet_text, sheet_call}
use Rattle.sheet.specs.Claims.{SheetNumbersAreListed, SheetLimitIsRefused, SheetNumbersByCause, SheetLength, SheetsFollowViews, SheetSecrecy}
use Rattle.sheet.proofs.Sheet.{sheet_fits}

pub sheet_numbers_are_listed : SheetNumbersAreListed
sheet_numbers_are_listed v image out = observer_listed (sheet_call v image) out (image_listed image) v refl

pub sheet_limit_is_refused : SheetLimitIsRefused
sheet_limit_is_refused v image out = limit_exactly (sheet_call v image) out (image_listed image) v highest_label 1 refl (omega arith) (λ low high. omega arith)

pub sheet_numbers_by_cause : SheetNumbersByCause
sheet_numbers_by_cause v image out = numbers_by_cause (sheet_call v image) out (observer_number_lem v) (image_listed image)

pub sheets_fit : SheetLength
sheets_fit v image a = sheet_fits v image a.bytes a.number

pub sheets_follow_views : SheetsFollowViews
sheets_follow_views v image image' a a' e =
    tell_the_same (sheet_call v image) (sheet_call v image') refl (a.number ∙ sym a'.number) (ap sheet_text (states_same v image image' a a' e)) refl

pub sheet_secrecy : SheetSecrecy
sheet_secrecy v seen image image' a a' e calls calls' p p' agree =
    let ends = secrecy v seen image image' a a' e calls calls' p p' agree in
    sheets_follow_views v (final_image calls image) (final_image calls' image') ends.left ends.right
    (equal_bytes v seen (final_image calls image) (final_image calls' image') ends)
