use Rattle.std.proofs.Common.{◌≡◌, ◌<◌, length, not, filter, get_or, take, sym, ap, ◌∙◌, arith}
use Rattle.std.proofs.lemmas.Bool.{eq-eqb, ne_eqb}
use Rattle.std.proofs.lemmas.List.Filters.{FiltersInPlace-more_no, FiltersInPlace-more_set}
use Rattle.rosters.specs.Rows.{other_than}
use Rattle.rosters.proofs.roster.Roster.remove.Goals as goal
use Rattle.rosters.proofs.roster.Roster.remove.Goals.{then-key-wanted, else-key-wanted}

pub loop-i-preserved : goal.loop-i-preserved
loop-i-preserved g c =
    let key = g.T.Keyed.keyed in
    let k = c.args.wanted in
    let ys = c.loop-i.self.entries in
    let i = c.loop-i.i in
    let x = get_or ys i c.index-self-i.result in
    let read : x ≡ get_or ys i x = ap (λ y. get_or ys i y) c.index-self-i.is in
    let long = c.loop-i.self.long in
    let within = c.args.self.now.within in
    let less : i < length ys = omega (arith, c.loop-i-test.true) in
    elim c.if-key-wanted.branch [
      | then-key-wanted w ↦ rw (w.self-is, w.front-is) (FiltersInPlace-more_set c.loop-i.invariant.0 less (ap not (ne_eqb (key x) k (λ e. w.if-key-wanted.true (c.key.ensures ∙ e)))) read, c.loop-i.invariant.1)
      | else-key-wanted w ↦ rw (w.self-is, w.front-is) (FiltersInPlace-more_no c.loop-i.invariant.0 less (ap not (eq-eqb (key x) k (sym c.key.ensures ∙ w.if-key-wanted.false))) read, c.loop-i.invariant.1)
    ]

pub returns : goal.returns
returns g c =
    let all : c.loop-i.i ≡ c.args.self.now.count = omega (arith, c.loop-i-test.false, c.loop-i.auto.i-end) in
    c.loop-i.invariant.0.front ∙ ap (λ n. filter (other_than g.T.Keyed.keyed c.args.wanted) (take n c.args.self.now.entries)) all
