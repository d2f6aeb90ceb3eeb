use Rattle.std.proofs.Common.{◌≡◌, ◌≤◌, ◌+◌, ℕ, List, drop, length, Some}
use Rattle.toml.specs.View.{items_view}
use Rattle.sb_outside.specs.Folders.{Files, without}
use Rattle.sb_plan.specs.PlanFiles.{first_wiring, with_elements_from}
use Rattle.sb_plan.specs.Soundness.{IsSound}
use Rattle.sb_plan.specs.Wants.{WantsNoFile, no_files}
use Rattle.sb_plan.proofs.Absent.{SameOrNoFile}
use Rattle.sb_plan.proofs.plan_text.wire_elements.Given as goal

abbrev pub invariant-loop-value : goal.invariant-loop-value
invariant-loop-value g l = record {
  counted : l.place ≡ l.value-index;
  few : length l.elements.items ≤ 12;
  sized : length l.wiring.parts ≡ l.value-index;
  sound : IsSound l.wiring;
  told : g.F.Folder.files l.folder ≡ g.F.Folder.files l.fn.folder;
  unlisted : g.F.Folder.failed l.folder ≡ g.F.Folder.failed l.fn.folder;
  same : (files : Files) → g.F.Folder.files l.fn.folder ≡ Some files
      → with_elements_from files 1 (first_wiring l.fn.late l.fn.keys) (items_view l.elements.items) ≡ with_elements_from files (l.place + 1) l.wiring (items_view (drop l.value-index l.elements.items));
  fewer : (files : Files) (name : List ℕ) → g.F.Folder.files l.fn.folder ≡ Some files
      → SameOrNoFile (with_elements_from (without name files) 1 (first_wiring l.fn.late l.fn.keys) (items_view l.elements.items))
      (with_elements_from (without name files) (l.place + 1) l.wiring (items_view (drop l.value-index l.elements.items)));
  alone : WantsNoFile (λ files. with_elements_from files 1 (first_wiring l.fn.late l.fn.keys) (items_view l.elements.items))
      → with_elements_from no_files 1 (first_wiring l.fn.late l.fn.keys) (items_view l.elements.items) ≡ with_elements_from no_files (l.place + 1) l.wiring (items_view (drop l.value-index l.elements.items));
}
