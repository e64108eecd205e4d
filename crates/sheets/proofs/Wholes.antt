-- A whole sheet's answers, from how it opened. Assumes nothing.
use Rattle.std.proofs.Common.{◌≡◌, ℕ, ◌+◌, List, ◌++◌, take, Ok, sym, ap, ◌∙◌, subst}
use Rattle.arithmetic.specs.declared.settings.Settings.{Settings as Code}
use Rattle.rules.specs.declared.Answer.TheVariants.{Refused}
use Rattle.rules.specs.State.{Settings, State, Lawful, empty}
use Rattle.laws.proofs.Whole.{every_run_keeps_its_laws}
use Rattle.ring.specs.Views.{settled}
use Rattle.sheets.specs.declared.order_lines.OrderLines.{OrderLines}
use Rattle.sheets.specs.declared.heads.Opening.TheVariants.{Ready, Closed}
use Rattle.sheets.specs.Heads.{Head, Opens, Refuses, head_in}
use Rattle.sheets.specs.Sheets.{lines_read, order_lines, calls_in, orders_text, text_left, sized, text_after, answer_names, sheet_text, Answered}
use Rattle.sheets.specs.Answers.{OpenedAs}
use Rattle.sheets.proofs.Turns.{written_front}

-- the ghost fields of settings are the rules' bounds
pub lawful_settings : (s : Code) (cells slots : ℕ) → Lawful (settled s cells slots)
lawful_settings s cells slots = record { some_size = s.some; size_in_range = s.bounded; some_copies = s.kept; copies_in_range = s.few; divides = s.even }

module _ (sheet memory memory' : List ℕ) (cells slots : ℕ) (text : List ℕ) where
  -- one of the first three lines was refused
  module _ (n : ℕ) where
    pub closed_text : (h : Head) → head_in (lines_read sheet) ≡ h → OpenedAs (order_lines sheet) memory memory' h (Ok (Closed n)) → text ≡ answer_names ++ take n memory' → Answered cells slots sheet text
    unfolding sheet_text
    closed_text (Opens size copies cols) e o is = absurd o
    closed_text (Refuses line fault) e written is = record {
      text_is = is ∙ ap (λ t. answer_names ++ t) (written_front line (Refused fault) memory memory' n written) ∙ sym (ap (λ (h : Head). answer_names ++ text_after cells slots (order_lines sheet) h) e);
      laws = λ size copies cols open'. let never = sym e ∙ open' in cc;
    }

  -- or all were read
  module _ (settings : Code) (orders : OrderLines) (set : Settings) (s : State) (sizes-are : set ≡ settled settings cells slots) (starts : s ≡ empty) where
    pub ready_text : (h : Head) → head_in (lines_read sheet) ≡ h → OpenedAs (order_lines sheet) memory memory' h (Ok (Ready settings orders)) → text ≡ answer_names ++ text_left set s orders → Answered cells slots sheet text
    unfolding sheet_text
    ready_text (Opens size copies cols) e (size_is, copies-is, columns-are, left, number, unwritten) is =
        let same : set ≡ sized cells slots size copies = sizes-are ∙ (λ j. sized cells slots (size_is j) (copies-is j)) in
        record {
          text_is = is ∙ (λ j. answer_names ++ orders_text (same j) (starts j) (columns-are j) (number j + 1) (left j)) ∙ sym (ap (λ (h : Head). answer_names ++ text_after cells slots (order_lines sheet) h) e);
          laws = λ size' copies' cols' open'.
              let one = sym e ∙ open' in
              let size-same : settings.size ≡ size' = cc in
              let copies-same : settings.copies ≡ copies' = cc in
              every_run_keeps_its_laws (sized cells slots size' copies') (subst Lawful (λ j. sized cells slots (size-same j) (copies-same j)) (lawful_settings settings cells slots)) (calls_in cols' (order_lines sheet));
        }
    ready_text (Refuses line fault) e o is = absurd o
