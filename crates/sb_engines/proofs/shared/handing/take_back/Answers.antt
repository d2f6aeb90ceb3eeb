use Rattle.std.proofs.Common.{◌<◌, rules}
use Rattle.sb_worker.specs.turn.Reasons.{number_of}
use Rattle.sb_engines.proofs.FedMore.{fed-stepped}
use Rattle.sb_engines.proofs.PassesHeld.{empty-same, known-exactly, still-empty}
use Rattle.sb_engines.proofs.Returned.{whole-back}
use Rattle.sb_engines.proofs.shared.handing.take_back.Goals as goal

pub shut-requires-clause-shelf : goal.shut-requires-clause-shelf
shut-requires-clause-shelf g c =
    still-empty c.empty_shelf.new.pass c.reason.new.pass (number_of c.reason.result) c.reason.ensures.word c.in-Ok.ensures.pass.1

pub returns-clause-whole : goal.returns-clause-whole
returns-clause-whole g c = λ f rows h.
    let cascade = c.args.cascade in
    let p = c.empty_shelf.new.pass in
    let q = c.reason.new.pass in
    let looked = c.reason.ensures.pass in
    let n = number_of c.reason.result in
    let fed = c.in-Ok.ensures.fed f rows (c.join_all.ensures.fed f rows h) in
    let later = fed-stepped cascade p q f rows fed looked.0 (empty-same p q looked.2 fed.empty) looked.1 in
    let known = known-exactly p q n c.reason.ensures.word c.in-Ok.ensures.pass.0.out in
    let low : n < 3 = search rules in
    whole-back cascade q c.shut.result c.shut.ensures c.requires.some (c.shut.ensures.unspent n known low) f rows later
