use Rattle.std.proofs.Common.{◌≡◌, List, map, length, fold, ap, ◌∙◌}
use Rattle.std.specs.List.{slice_get}
use Rattle.rules.specs.declared.Answer.{Answer}
use Rattle.rules.specs.State.{empty}
use Rattle.rules.specs.Runs.{from}
use Rattle.laws.proofs.Whole.{every_run_keeps_its_laws}
use Rattle.ring.specs.Views.{settled}
use Rattle.runs.specs.Orders.{call_of, answer_of, answers_from, edits_from}
use Rattle.runs.proofs.Turns.{answer_at}
use Rattle.runs.proofs.run.Goals as goal

pub returns : goal.returns
returns g c =
    let set = settled c.args.settings (g.S.Holder.room c.args.shelf.now) (g.P.Holder.room c.args.post.now) in
    let calls = map call_of c.args.orders.now in
    let made = c.new-ring.ensures in
    let done = c.perform_all.ensures in
    let answers : map answer_of c.perform_all.new.orders ≡ answers_from set empty calls = done.answers ∙ (λ j. answers_from (made.size j) (made.state j) calls) in
    record {
      calls = done.calls;
      answers = λ before later call split. ap (λ (l : List Answer). slice_get l (length before)) (answers ∙ ap (answers_from set empty) split) ∙ answer_at set empty before later call;
      state = done.leads.became ∙ (λ j. from (made.size j) (made.state j) calls);
      size = done.leads.same_sizes ∙ made.size;
      remembers = done.leads.remembers ∙ (λ j. fold g.S.Shelf.after (made.cells j) (edits_from (made.size j) (made.state j) calls));
      laws = every_run_keeps_its_laws set (record { some_size = c.args.settings.some; size_in_range = c.args.settings.bounded; some_copies = c.args.settings.kept; copies_in_range = c.args.settings.few; divides = c.args.settings.even }) calls;
    }
