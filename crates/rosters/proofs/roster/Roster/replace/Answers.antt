use Rattle.std.proofs.Common.{◌≡◌, cond, length, take, drop, set, sym, ap, ◌∙◌, arith}
use Rattle.std.proofs.lemmas.Bool.{eq-eqb, ne_eqb}
use Rattle.std.proofs.lemmas.List.{append-nil, take_all, drop_all, take_at, length-take-le}
use Rattle.std.proofs.lemmas.List.Edits.{map_over_more}
use Rattle.rosters.specs.Rows.{in_place}
use Rattle.rosters.proofs.roster.Roster.replace.Goals as goal
use Rattle.rosters.proofs.roster.Roster.replace.Goals.{then-key-wanted, else-key-wanted}

pub loop-entry-preserved : goal.loop-entry-preserved
loop-entry-preserved g c =
    let key = g.T.Keyed.keyed in
    let k = c.args.wanted in
    let v = c.args.value in
    let xs = take c.args.self.now.count c.args.self.now.entries in
    let ys = c.loop-entry.entry-items in
    let i = c.loop-entry.entry-index in
    let x = c.entry-item.result in
    let read = c.entry-item.is in
    let told : c.key.result ≡ key x = c.key.ensures ∙ ap key (sym read) in
    let more = map_over_more (in_place key k v) xs ys i x c.loop-entry-test.true c.loop-entry.invariant read in
    elim c.if-key-wanted.branch [
      | then-key-wanted w ↦ w.entry-items-is ∙ ap (λ t. set ys i (cond t v x)) (sym (eq-eqb (key x) k (sym told ∙ w.if-key-wanted.true))) ∙ more
      | else-key-wanted w ↦ w.entry-items-is ∙ ap (λ y. set ys i y) (sym read) ∙ ap (λ t. set ys i (cond t v x)) (sym (ne_eqb (key x) k (λ e. w.if-key-wanted.false (told ∙ e)))) ∙ more
    ]

-- those in use were all looked at, and the others are behind them
pub returns : goal.returns
returns g c =
    let n = c.args.self.now.count in
    let xs = c.args.self.now.entries in
    let long = c.args.self.now.long in
    let within = c.args.self.now.within in
    let used : length (take n xs) ≡ n = length-take-le n xs (omega arith) in
    take_at c.loop-entry.entry-items (drop n xs) n (c.loop-entry.auto.entry-items ∙ used)
    ∙ rw (take_all _ (take n xs) c.loop-entry-test.false, drop_all _ (take n xs) c.loop-entry-test.false, append-nil) at c.loop-entry.invariant
