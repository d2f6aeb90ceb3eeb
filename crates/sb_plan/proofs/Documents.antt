-- The table of a document.
use Rattle.std.proofs.Common.{◌≡◌, ℕ, List, Some, None, IsUtf8, inl, inr}
use Rattle.std.specs.Str.{is_utf8}
use Rattle.std.proofs.lemmas.Bool.{cases_Bool}
use Rattle.std.proofs.lemmas.Str.{is_utf8-from_IsUtf8, IsUtf8-from_is_utf8}
use Rattle.toml.specs.Data.{Members}
use Rattle.toml.specs.Parse.{parse_document}
use Rattle.sb_plan.specs.PlanFiles.{document_of}

pub document_of-read : (bytes : List ℕ) (m : Members) → IsUtf8 bytes → parse_document bytes ≡ Some m → document_of bytes ≡ Some m
unfolding document_of
document_of-read bytes m utf8 read = rw (is_utf8-from_IsUtf8 bytes utf8) read

pub document_of-refused : (bytes : List ℕ) → (IsUtf8 bytes → parse_document bytes ≡ None) → document_of bytes ≡ None
unfolding document_of
document_of-refused bytes refused =
    elim (cases_Bool (is_utf8 bytes)) [
      | inl good ↦ rw good (refused (IsUtf8-from_is_utf8 bytes good))
      | inr bad ↦ rw bad
    ]
