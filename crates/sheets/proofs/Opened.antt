-- The first three lines of a sheet, one after the other. Assumes nothing.
use Rattle.std.proofs.Common.{◌≡◌, ℕ, ◌+◌, List, [], get_or, drop, Ok, Err, Result, sym, refl, ap, ◌∙◌, arith}
use Rattle.std.proofs.lemmas.List.{get_or-drop, drop-drop}
use Rattle.faults.specs.declared.Fault.{Fault}
use Rattle.arithmetic.specs.declared.settings.Settings.{Settings}
use Rattle.lines.specs.declared.line.Line.{Line}
use Rattle.lines.specs.declared.lines.Lines.{Lines}
use Rattle.lines.specs.Reading.{line_of, left_of}
use Rattle.orders.specs.declared.columns.Columns.{Columns}
use Rattle.orders.specs.Columns.{columns_of}
use Rattle.orders.specs.Heads.{names_of}
use Rattle.sheets.specs.declared.heads.Refusal.{Refusal}
use Rattle.sheets.specs.Heads.{Opens, Refuses, head_in, settings_of, sizes_of, with_names, read_at, TakesLine}

-- what was read of a line, from what became of it
refused : {X : Type 0} (n : ℕ) (r : Result X Fault) (e : Refusal) → Err e ≡ read_at n r → (r ≡ Err e.fault) × (n ≡ e.line)
refused n (Ok x) e h = cc
refused n (Err fault) e h = (cc, cc)

kept : {X : Type 0} (n : ℕ) (r : Result X Fault) (x : X) → Ok x ≡ read_at n r → r ≡ Ok x
kept n (Ok y) x h = cc
kept n (Err fault) x h = cc

-- a line that was read has bytes
some : {X : Type 0} (read : List ℕ → Result X Fault) (e : Fault) (x : X) (line : List ℕ) → read [] ≡ Err e → read line ≡ Ok x → line ≡ [] → ⊥
some read e x line none is empty = let same = sym none ∙ sym (ap read empty) ∙ is in cc

module _ (l₀ l₁ : Lines) (first : Line) (a₁ : TakesLine l₀ first l₁) (names : Result (Unit {0}) Fault) (n : names ≡ names_of (line_of first)) where
  names_are : (known : Result (Unit {0}) Fault) → names ≡ known → names_of (get_or (left_of l₀) 0 []) ≡ known
  names_are known is = ap names_of (sym a₁.line_is) ∙ sym n ∙ is

  pub first_refused : (e : Refusal) → Err e ≡ read_at 1 names → head_in (left_of l₀) ≡ Refuses e.line e.fault
  unfolding head_in
  first_refused e h =
      let r = refused 1 names e h in
      ap (λ (x : Result (Unit {0}) Fault). with_names x (settings_of (get_or (left_of l₀) 1 [])) (columns_of (get_or (left_of l₀) 2 []))) (names_are (Err e.fault) r.0) ∙ ap (λ k. Refuses k e.fault) r.1

  module _ (l₂ : Lines) (second : Line) (a₂ : TakesLine l₁ second l₂) (u : Unit {0}) (h₁ : Ok u ≡ read_at 1 names) (settings : Result Settings Fault) (s : sizes_of settings ≡ settings_of (line_of second)) where
    second_line : line_of second ≡ get_or (left_of l₀) 1 []
    second_line = a₂.line_is ∙ ap (λ ls. get_or ls 0 []) a₁.left_is ∙ get_or-drop 1 (left_of l₀) 0 []

    two_left : left_of l₂ ≡ drop 2 (left_of l₀)
    two_left = a₂.left_is ∙ ap (drop 1) a₁.left_is ∙ drop-drop 1 1 (left_of l₀)

    settings_are : (known : Result Settings Fault) → settings ≡ known → settings_of (get_or (left_of l₀) 1 []) ≡ sizes_of known
    settings_are known is = ap settings_of (sym second_line) ∙ sym s ∙ ap sizes_of is

    pub second_refused : (e : Refusal) → Err e ≡ read_at 2 settings → head_in (left_of l₀) ≡ Refuses e.line e.fault
    unfolding head_in
    second_refused e h =
        let r = refused 2 settings e h in
        (λ j. with_names (names_are (Ok u) (kept 1 names u h₁) j) (settings_are (Err e.fault) r.0 j) (columns_of (get_or (left_of l₀) 2 []))) ∙ ap (λ k. Refuses k e.fault) r.1

    module _ (l₃ : Lines) (third : Line) (a₃ : TakesLine l₂ third l₃) (set : Settings) (h₂ : Ok set ≡ read_at 2 settings) (columns : Result Columns Fault) (k : columns ≡ columns_of (line_of third)) where
      third_line : line_of third ≡ get_or (left_of l₀) 2 []
      third_line = a₃.line_is ∙ ap (λ ls. get_or ls 0 []) two_left ∙ get_or-drop 2 (left_of l₀) 0 []

      columns_are : (known : Result Columns Fault) → columns ≡ known → columns_of (get_or (left_of l₀) 2 []) ≡ known
      columns_are known is = ap columns_of (sym third_line) ∙ sym k ∙ is

      pub third_refused : (e : Refusal) → Err e ≡ read_at 3 columns → head_in (left_of l₀) ≡ Refuses e.line e.fault
      unfolding head_in
      third_refused e h =
          let r = refused 3 columns e h in
          (λ j. with_names (names_are (Ok u) (kept 1 names u h₁) j) (settings_are (Ok set) (kept 2 settings set h₂) j) (columns_are (Err e.fault) r.0 j)) ∙ ap (λ n. Refuses n e.fault) r.1

      module _ (cols : Columns) (h₃ : Ok cols ≡ read_at 3 columns) where
        opens : head_in (left_of l₀) ≡ Opens set.size set.copies cols
        unfolding head_in
        opens = λ j. with_names (names_are (Ok u) (kept 1 names u h₁) j) (settings_are (Ok set) (kept 2 settings set h₂) j) (columns_are (Ok cols) (kept 3 columns cols h₃) j)

        counted : l₃.number ≡ l₀.number + 3
        counted =
            let one = a₁.counted (some names_of _ u (line_of first) refl (sym n ∙ kept 1 names u h₁)) in
            let two = a₂.counted (some settings_of _ (set.size, set.copies) (line_of second) refl (sym s ∙ ap sizes_of (kept 2 settings set h₂))) in
            let three = a₃.counted (some columns_of _ cols (line_of third) refl (sym k ∙ kept 3 columns cols h₃)) in
            omega arith

        pub all_read : (head_in (left_of l₀) ≡ Opens set.size set.copies cols) × (left_of l₃ ≡ drop 3 (left_of l₀)) × (l₃.number ≡ l₀.number + 3)
        all_read = (opens, a₃.left_is ∙ ap (drop 1) two_left ∙ drop-drop 1 2 (left_of l₀), counted)
