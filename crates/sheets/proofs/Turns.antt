-- One answer more: what is left of a sheet gives the whole of it. Assumes nothing.
use Rattle.std.proofs.Common.{◌≡◌, ℕ, ◌+◌, List, [], ◌∷◌, ◌++◌, length, take, drop, Some, Ok, Err, Result, sym, ap, ◌∙◌, subst, append_assoc, append-nil}
use Rattle.std.proofs.lemmas.List.{take_at}
use Rattle.faults.specs.declared.Fault.{Fault}
use Rattle.messages.specs.declared.Message.{Message}
use Rattle.rules.specs.declared.Call.{Call}
use Rattle.rules.specs.declared.Answer.{Answer}
use Rattle.rules.specs.declared.Answer.TheVariants.{Refused}
use Rattle.rules.specs.State.{Settings}
use Rattle.rules.specs.Rules.{step}
use Rattle.runs.specs.Orders.{answers_from}
use Rattle.holders.specs.declared.holder.Holder.{Ghosts as Holding}
use Rattle.holders.specs.declared.shelf.Shelf.{Ghosts as Shelving}
use Rattle.holders.specs.declared.post.Post.{Ghosts as Posting}
use Rattle.ring.specs.declared.ring.Ring.{Ring}
use Rattle.ring.specs.Views.{viewed, sizes}
use Rattle.lines.specs.Reading.{left_of}
use Rattle.orders.specs.Orders.{read_order}
use Rattle.answer_lines.specs.AnswerLines.{answer_line, least_memory}
use Rattle.sheets.specs.declared.order_lines.OrderLines.{OrderLines}
use Rattle.sheets.specs.Sheets.{call_then, calls_in, end_then, end_in, answer_lines, orders_text, text_left}
use Rattle.sheets.specs.Answers.{Written, Takes, AnswersNext}

-- the front of the memory is the answer line
pub written_front : (line : ℕ) (answer : Answer) (memory memory' : List ℕ) (n : ℕ) → Written line answer memory memory' n → take n memory' ≡ answer_line line answer
written_front line answer memory memory' n w =
    ap (take n) w.after ∙ take_at (answer_line line answer) (drop (length (answer_line line answer)) memory) n (sym w.length_is)

module _ {S P : Type 0} {shelf : Shelving S} {cells : Holding S} {post : Posting P Message} {slots : Holding P} (orders orders' : OrderLines) (ring ring' : Ring S P shelf cells post slots) (memory memory' : List ℕ) (n : ℕ) (same : orders'.columns ≡ orders.columns) where
  abbrev line : ℕ
  line = orders.lines.number + 1

  -- what is still to be answered
  abbrev later : Settings → List ℕ
  later set = text_left set (viewed ring') orders'

  took : (r : Result Call Fault) (ls : List (List ℕ)) → Takes orders ring memory r ls orders' ring' memory' n → take n memory' ++ later (sizes ring) ≡ answer_lines line (answers_from (sizes ring) (viewed ring) (call_then r (calls_in orders.columns ls))) ++ end_then line r (end_in orders.columns (line + 1) ls)
  took (Ok call) ls (answer, performs, written, left, number) =
      let set = sizes ring in
      let s = viewed ring in
      let text = written_front line answer memory memory' n written ∙ ap (answer_line line) performs.answered in
      let rest : later set ≡ orders_text set (step set s call).after orders.columns (line + 1) ls =
      λ j. orders_text set (performs.leads.became j) (same j) (number j + 1) (left j) in
      (λ j. text j ++ rest j) ∙ sym (append_assoc (answer_line line (step set s call).answer) (answer_lines (line + 1) (answers_from set (step set s call).after (calls_in orders.columns ls))) (end_in orders.columns (line + 1) ls))
  took (Err fault) ls (unchanged, written, left) =
      let set = sizes ring in
      let rest : later set ≡ [] = ap (orders_text set (viewed ring') orders'.columns (orders'.lines.number + 1)) left in
      (λ j. written_front line (Refused fault) memory memory' n written j ++ rest j) ∙ append-nil (answer_line line (Refused fault))

  -- the line that was just answered, and then what is left
  pub answered : (ls : List (List ℕ)) → AnswersNext orders ring memory ls (Some n) orders' ring' memory' → take n memory' ++ later (sizes ring) ≡ orders_text (sizes ring) (viewed ring) orders.columns line ls
  answered [] h = absurd h
  answered (l ∷ ls) h = took (read_order orders.columns l) ls h.0

  took_sizes : (r : Result Call Fault) (ls : List (List ℕ)) → Takes orders ring memory r ls orders' ring' memory' n → sizes ring' ≡ sizes ring
  took_sizes (Ok call) ls (told, performs, written, left, number) = performs.leads.same_sizes
  took_sizes (Err fault) ls (unchanged, written, left) = ap sizes unchanged

  pub answered_sizes : (ls : List (List ℕ)) → AnswersNext orders ring memory ls (Some n) orders' ring' memory' → sizes ring' ≡ sizes ring
  answered_sizes [] h = absurd h
  answered_sizes (l ∷ ls) h = took_sizes (read_order orders.columns l) ls h.0

-- ---- all that are left

module _ {S P : Type 0} {shelf : Shelving S} {cells : Holding S} {post : Posting P Message} {slots : Holding P} where
  -- with what is left to answer, the text is the whole one; the memory for a line is long enough
  pub record Sofar (set : Settings) (whole : List ℕ) (orders : OrderLines) (ring : Ring S P shelf cells post slots) (text memory : List ℕ) : Type 0 where
    pub goes_on : text ++ text_left set (viewed ring) orders ≡ whole
    pub same_sizes : sizes ring ≡ set
    pub roomy : length memory ≡ least_memory

  pub sofar_more : (set : Settings) (whole : List ℕ) (orders orders' : OrderLines) (ring ring' : Ring S P shelf cells post slots) (text text' memory memory' : List ℕ) (n : ℕ) → orders'.columns ≡ orders.columns → AnswersNext orders ring memory (left_of orders.lines) (Some n) orders' ring' memory' → text' ≡ text ++ take n memory' → length memory' ≡ length memory → Sofar set whole orders ring text memory → Sofar set whole orders' ring' text' memory'
  sofar_more set whole orders orders' ring ring' text text' memory memory' n same h more long before =
      let left : Settings → List ℕ = λ s. text_left s (viewed ring') orders' in
      let all : Settings → List ℕ = λ s. text_left s (viewed ring) orders in
      let one : take n memory' ++ left set ≡ all set =
      subst (λ (s : Settings). take n memory' ++ left s ≡ all s) before.same_sizes (answered orders orders' ring ring' memory memory' n same (left_of orders.lines) h) in
      record {
        goes_on = ap (λ t. t ++ left set) more ∙ append_assoc text (take n memory') (left set) ∙ ap (λ t. text ++ t) one ∙ before.goes_on;
        same_sizes = answered_sizes orders orders' ring ring' memory memory' n same (left_of orders.lines) h ∙ before.same_sizes;
        roomy = long ∙ before.roomy;
      }
