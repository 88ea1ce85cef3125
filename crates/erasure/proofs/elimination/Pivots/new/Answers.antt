use Rattle.std.proofs.Common.{List, replicate}
use Rattle.element.specs.declared.forms.Form.{Form}
use Rattle.erasure.proofs.Reading.{all_blank, blank_reduced, blank_solved}
use Rattle.erasure.proofs.elimination.Pivots.new.Goals as goal

abbrev blank : Form → List Form
blank f = replicate 64 f

pub invariant_of-result : goal.invariant_of-result
invariant_of-result c =
    record { size = c.requires; reduced = blank_reduced c.args.count (blank c.zero.result) (all_blank c.zero.result c.zero.ensures 64) }

pub returns-clause-free : goal.returns-clause-free
returns-clause-free c = λ s. blank_solved c.args.count (blank c.zero.result) s (all_blank c.zero.result c.zero.ensures 64)
