use Rattle.std.proofs.Common.{◌≡◌, ◌∙◌, sym, ap, subst}
use Rattle.std.proofs.lemmas.Fmt.{parse-decimal, IsAscii-decimal}
use Rattle.std.proofs.lemmas.Str.{IsUtf8-from_ascii}
use Rattle.std.specs.Str.{IsUtf8}
use Rattle.std.specs.Fmt.{decimal}
use Rattle.std.specs.Result.{result_ok}
use Rattle.sb_checkpoint.proofs.line_reading.loose_number.Goals as goal

pub returns-in-Ok : goal.returns-in-Ok
returns-in-Ok c n spelled =
    let text : c.in-Ok.digits.now ≡ decimal n = c.in-Ok.ensures.cases.0 ∙ spelled.1 in
    c.ok.ensures.value ∙ ap result_ok (parse-decimal 64 n c.in-Ok.digits.now c.parse.result spelled.0 spelled.0 text c.parse.ensures.value.0)

pub returns-in-Err : goal.returns-in-Err
returns-in-Err c n spelled =
    absurd (c.in-Err.ensures.cases.0 (subst IsUtf8 (sym spelled.1) (IsUtf8-from_ascii (decimal n) (IsAscii-decimal n spelled.0))))
