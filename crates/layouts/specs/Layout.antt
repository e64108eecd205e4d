-- A message's 22 bytes: kind, replica, to (2), from (2), start or place (2), end (2), number (4), value (8), high byte first.
-- Assumes nothing.
use Rattle.std.specs.Prelude.{ℕ, Bool, cond, ◌&&◌, List, ◌∷◌, ◌++◌, length, Some, None, Ok, Err, Option, Result, ◌==◌, slice_index}
use Rattle.faults.specs.declared.Fault.{Fault}
use Rattle.faults.specs.declared.Fault.TheVariants.{Bytes}
use Rattle.messages.specs.declared.Message.{Message}
use Rattle.messages.specs.declared.Message.TheVariants.{RetrieveItems, Replicate, AddItem, GetItem}
use Rattle.words.specs.Words.{two, four, eight, of16, of32, of64}
use Rattle.layouts.specs.declared.Fields.{Fields}

abbrev pub fields : ℕ → ℕ → ℕ → ℕ → ℕ → ℕ → ℕ → ℕ → Fields
fields kind replica to from start end number value =
    record { kind = kind; replica = replica; to = to; from = from; start = start; end = end; number = number; value = value }

-- The kinds, a row each: its number, and what it writes into each field. A field that it does not name is 0.
abbrev pub fields_of : Message → Fields
fields_of (RetrieveItems to from start end) = fields 1 0 to from start end 0 0
fields_of (Replicate to from start end) = fields 2 0 to from start end 0 0
fields_of (AddItem to replica place stamp value) = fields 3 replica to 0 place 0 stamp value
fields_of (GetItem to replica place question) = fields 4 replica to 0 place 0 question 0

-- The same kinds, a row each: the message of the fields that it names.
abbrev pub message_of : Fields → Option Message
message_of f =
    cond (f.kind == 1) (Some (RetrieveItems f.to f.from f.start f.end))
    (cond (f.kind == 2) (Some (Replicate f.to f.from f.start f.end))
    (cond (f.kind == 3) (Some (AddItem f.to f.replica f.start f.number f.value))
    (cond (f.kind == 4) (Some (GetItem f.to f.replica f.start f.number))
    None)))

unfoldable pub same : Fields → Fields → Bool
same f g =
    (f.kind == g.kind) && (f.replica == g.replica && (f.to == g.to && (f.from == g.from && (f.start == g.start && (f.end == g.end && (f.number == g.number && f.value == g.value))))))

abbrev pub bytes_of : Fields → List ℕ
bytes_of f =
    f.kind ∷ (f.replica ∷ (two f.to ++ (two f.from ++ (two f.start ++ (two f.end ++ (four f.number ++ eight f.value))))))

-- the bytes of a message
abbrev pub encoded : Message → List ℕ
encoded m = bytes_of (fields_of m)

-- the first 22 bytes, field by field
abbrev pub fields_in : List ℕ → Fields
fields_in bs =
    fields (slice_index bs 0) (slice_index bs 1) (of16 (slice_index bs 2) (slice_index bs 3)) (of16 (slice_index bs 4) (slice_index bs 5)) (of16 (slice_index bs 6) (slice_index bs 7)) (of16 (slice_index bs 8) (slice_index bs 9)) (of32 (of16 (slice_index bs 10) (slice_index bs 11)) (of16 (slice_index bs 12) (slice_index bs 13))) (of64 (of32 (of16 (slice_index bs 14) (slice_index bs 15)) (of16 (slice_index bs 16) (slice_index bs 17))) (of32 (of16 (slice_index bs 18) (slice_index bs 19)) (of16 (slice_index bs 20) (slice_index bs 21))))

-- the message of the fields, if they hold nothing else
abbrev pub exactly : Fields → Option Message → Result Message Fault
exactly f None = Err Bytes
exactly f (Some m) = cond (same (fields_of m) f) (Ok m) (Err Bytes)

abbrev pub read : Fields → Result Message Fault
read f = exactly f (message_of f)

-- the message of these bytes
abbrev pub decoded : List ℕ → Result Message Fault
decoded bs = cond (length bs == 22) (read (fields_in bs)) (Err Bytes)
