use Rattle.std.proofs.Common.{sym, ap, arith, rules, codes}
use Rattle.std.proofs.lemmas.Slice.Eq.{text_from_reads}
use Rattle.orders.specs.Orders.{verb_of}
use Rattle.orders.proofs.orders.verb_of.Goals as goal

pub returns-in-leave : goal.returns-in-leave
returns-in-leave c = sym (ap verb_of (text_from_reads c.args.word.now (codes "leave") (omega arith) (search rules)))

pub returns-in-insert : goal.returns-in-insert
returns-in-insert c = sym (ap verb_of (text_from_reads c.args.word.now (codes "insert") (omega arith) (search rules)))

pub returns-in-lookup : goal.returns-in-lookup
returns-in-lookup c = sym (ap verb_of (text_from_reads c.args.word.now (codes "lookup") (omega arith) (search rules)))

pub returns-in-deliver : goal.returns-in-deliver
returns-in-deliver c = sym (ap verb_of (text_from_reads c.args.word.now (codes "deliver") (omega arith) (search rules)))

pub returns-in-collect : goal.returns-in-collect
returns-in-collect c = sym (ap verb_of (text_from_reads c.args.word.now (codes "collect") (omega arith) (search rules)))
