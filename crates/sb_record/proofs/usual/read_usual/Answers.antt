use Rattle.sb_record.proofs.usual.read_usual.Goals as goal

pub returns-in-Numbers : goal.returns-in-Numbers
returns-in-Numbers c = rw c.in-Numbers.is c.usual_record.ensures
