-- The blank of each kind of record. Assumes nothing.
use Rattle.copies.specs.declared.CopyRecord.{CopyRecord}
use Rattle.messages.specs.declared.Message.{Message}
use Rattle.messages.specs.declared.Message.TheVariants.{GetItem}

-- zeros
abbrev pub blank_copy : CopyRecord
blank_copy = record { at = record { peer = 0; replica = 0; place = 0 }; held = record { stamp = 0; value = 0 } }

-- a GetItem of zeros
abbrev pub blank_message : Message
blank_message = GetItem 0 0 0 0
