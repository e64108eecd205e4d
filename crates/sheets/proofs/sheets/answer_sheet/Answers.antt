use Rattle.std.proofs.Common.{◌≡◌, ◌++◌, take, vec_items, refl, lit≤, rules}
use Rattle.ring.specs.Views.{viewed, sizes}
use Rattle.sheets.specs.Heads.{head_in}
use Rattle.sheets.specs.Sheets.{lines_read, text_left, answer_names}
use Rattle.sheets.proofs.Wholes.{closed_text, ready_text}
use Rattle.sheets.proofs.sheets.answer_sheet.Goals as goal
use Rattle.sheets.proofs.sheets.answer_sheet.Goals.{in-Ready+in_ok-answer_all-in-Ready, in-Closed+in_ok-extend_from_slice-in-Closed}

pub returns : goal.returns
returns g c =
    let sheet = c.args.sheet.now in
    let memory = c.open.new.memory in
    let cells = g.S.Holder.room c.args.shelf.now in
    let slots = g.P.Holder.room c.args.post.now in
    let text = vec_items c.match-opening.text in
    let opened = c.in-Ok.ensures.opened (lit≤ tt) in
    elim c.match-opening.branch [
      | in-Ready+in_ok-answer_all-in-Ready w ↦
          let made = w.new-ring.result in
          let orders = w.in-Ready.orders in
          let all = text_left (sizes made) (viewed made) orders in
          let same : text ≡ answer_names ++ all = search rules in
          ready_text sheet _ memory cells slots text w.in-Ready.settings orders (sizes made) (viewed made) w.new-ring.ensures.size w.new-ring.ensures.state (head_in (lines_read sheet)) refl (rw w.in-Ready.is at opened) same
      | in-Closed+in_ok-extend_from_slice-in-Closed w ↦
          let front = take w.in-Closed.n memory in
          let same : text ≡ answer_names ++ front = search rules in
          closed_text sheet _ memory cells slots text w.in-Closed.n (head_in (lines_read sheet)) refl (rw w.in-Closed.is at opened) same
    ]
