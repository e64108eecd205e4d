-- The number, the layer and the figure of each refusal. Assumes nothing.
use Rattle.std.specs.Prelude.{ℕ, cond, ◌==◌, nat_le}
use Rattle.faults.specs.declared.Fault.{Fault}
use Rattle.faults.specs.declared.Fault.TheVariants.{AnswerMemory, WrongFields, Unreadable, Size, Copies, Identifier, Replica, Bytes, OnTable, TableFull, NotMember, NoMember, OnlyMember, NotSettled, NumbersSpent, QuestionsOpen, ShelfFull, PostFull, NoMessage, NoQuestion}
use Rattle.faults.specs.declared.Layer.{Layer}
use Rattle.faults.specs.declared.Layer.TheVariants.{Sheet, Ring, Shelf, Post}

abbrev pub number_of : Fault → ℕ
number_of AnswerMemory = 1
number_of (WrongFields found) = 2
number_of (Unreadable column) = 3
number_of Size = 4
number_of Copies = 5
number_of Identifier = 6
number_of Replica = 7
number_of Bytes = 8
number_of OnTable = 9
number_of TableFull = 10
number_of NotMember = 11
number_of NoMember = 12
number_of OnlyMember = 13
number_of NotSettled = 14
number_of NumbersSpent = 15
number_of QuestionsOpen = 16
number_of (ShelfFull left) = 17
number_of (PostFull free) = 18
number_of NoMessage = 19
number_of NoQuestion = 20

abbrev pub layer_number : Layer → ℕ
layer_number Sheet = 1
layer_number Ring = 2
layer_number Shelf = 3
layer_number Post = 4

-- 1 to 3 are the sheet's, 17 the shelf's, 18 the post's, the others the ring's
abbrev pub layer_of : Fault → Layer
layer_of fault =
    cond (nat_le (number_of fault) 3) Sheet (cond (number_of fault == 17) Shelf (cond (number_of fault == 18) Post Ring))

-- 0 unless the refusal names a figure
abbrev pub figure_of : Fault → ℕ
figure_of AnswerMemory = 0
figure_of (WrongFields found) = found
figure_of (Unreadable column) = column
figure_of Size = 0
figure_of Copies = 0
figure_of Identifier = 0
figure_of Replica = 0
figure_of Bytes = 0
figure_of OnTable = 0
figure_of TableFull = 0
figure_of NotMember = 0
figure_of NoMember = 0
figure_of OnlyMember = 0
figure_of NotSettled = 0
figure_of NumbersSpent = 0
figure_of QuestionsOpen = 0
figure_of (ShelfFull left) = left
figure_of (PostFull free) = free
figure_of NoMessage = 0
figure_of NoQuestion = 0
