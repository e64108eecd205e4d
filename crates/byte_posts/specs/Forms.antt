-- A message's form: its 22 bytes, and the message that some bytes begin with. Assumes nothing.
use Rattle.std.proofs.Common.{ap}
use Rattle.std.specs.Prelude.{Ok, Err, Result, refl}
use Rattle.faults.specs.declared.Fault.{Fault}
use Rattle.messages.specs.declared.Message.{Message}
use Rattle.messages.specs.declared.Message.TheVariants.{GetItem}
use Rattle.layouts.specs.Layout.{encoded, fields_in, read}
use Rattle.layouts.proofs.Forms.{read_first}
use Rattle.rows.specs.Rows.{Form}

-- the message of a result; where there is none, any
abbrev pub message_in : Result Message Fault → Message
message_in (Ok m) = m
message_in (Err e) = GetItem 0 0 0 0

abbrev pub message_form : Form Message 22
message_form =
    record {
      bytes = encoded;
      first = λ bs. message_in (read (fields_in bs));
      wide = λ m. refl;
      back = λ m rest. ap message_in (read_first m rest);
    }
