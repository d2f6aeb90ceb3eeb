use Rattle.sb_core.proofs.parts.MadeSteps.{after-made}
use Rattle.sb_machine.proofs.Becoming.{becomes-as}
use Rattle.sb_core.proofs.sound.Orderly.{lawful_of}
use Rattle.sb_machine.proofs.Stepping.{step-sound, step-exact}
use Rattle.sb_machine.proofs.machine.step.Goals as goal

pub returns-clause-becomes : goal.returns-clause-becomes
returns-clause-becomes c = becomes-as _ _ _ _ c.do_event.result (after-made c.args.plan.now c.args.moment.now (lawful_of c.requires) c.args.event) c.do_event.ensures.becomes

pub returns-clause-sound : goal.returns-clause-sound
returns-clause-sound c = step-sound c.args.plan.now c.transforms.ensures.sound c.args.moment.now c.do_event.new.moment c.args.event c.requires c.do_event.result (returns-clause-becomes c)

pub returns-clause-exact : goal.returns-clause-exact
returns-clause-exact c = step-exact c.args.plan.now c.transforms.ensures.sound c.args.moment.now c.do_event.new.moment c.args.event c.requires c.do_event.result (returns-clause-becomes c)
