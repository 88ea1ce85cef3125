use Rattle.jobsheet.proofs.Reading.{word_stands}
use Rattle.jobsheet.proofs.line.Line.token.Goals as goal

pub returns-in-Names : goal.returns-in-Names
returns-in-Names c =
    let l = c.args.self.now in
    let w = word_stands l.text.now l.from l.end c.if-self.false l.within c.len_before.result c.len_before.ensures.count in
    record { case = (c.in-Names.is, c.if-self.false); there = w.there; next = w.next; within = w.within }

pub returns-in-Values : goal.returns-in-Values
returns-in-Values c =
    let l = c.args.self.now in
    let w = word_stands l.text.now l.from l.end c.if-self.false l.within c.len_before.result c.len_before.ensures.count in
    record { case = (c.in-Values.is, c.if-self.false); there = w.there; next = w.next; within = w.within }
