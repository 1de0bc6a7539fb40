-- `class_of`: each arm is a range of addresses on which `class_of` is one class, by a computed test (`Classes.span`).
use Rattle.std.proofs.Common.{⊎_elim, arith}
use Rattle.memory.specs.declared.Class.TheVariants.{Eeprom, Status, Hidden, Free, Flags, FastFlags, Entry, Upper}
use Rattle.memory.specs.Access.{class_of}
use Rattle.memory.proofs.Classes.{span}
use Rattle.memory.proofs.access.class_of.Goals as goal

pub returns-in-0-to-95 : goal.returns-in-0-to-95
unfolding class_of
returns-in-0-to-95 c = span Eeprom 0x00 96 tt c.args.address (omega arith) (omega arith)

pub returns-in-96-to-105 : goal.returns-in-96-to-105
unfolding class_of
returns-in-96-to-105 c = span Status 0x6E 1 tt c.args.address (omega arith) (omega arith)

pub returns-in-96-to-105-2 : goal.returns-in-96-to-105-2
unfolding class_of
returns-in-96-to-105-2 c = span Status 0x60 10 tt c.args.address (omega arith) (omega arith)

pub returns-in-106-to-109 : goal.returns-in-106-to-109
unfolding class_of
returns-in-106-to-109 c = span Hidden 0x6A 4 tt c.args.address (omega arith) (omega arith)

pub returns-in-106-to-109-2 : goal.returns-in-106-to-109-2
unfolding class_of
returns-in-106-to-109-2 c = span Hidden 0x78 3 tt c.args.address (omega arith) (omega arith)

pub returns-in-111 : goal.returns-in-111
unfolding class_of
returns-in-111 c =
    ⊎_elim
    (λ e. span Free 0x6F 1 tt c.args.address (omega arith) (omega arith))
    (λ e. span Free 0x7F 1 tt c.args.address (omega arith) (omega arith))
    c.in-111.is

pub returns-in-112-to-113 : goal.returns-in-112-to-113
unfolding class_of
returns-in-112-to-113 c = span Flags 0x70 2 tt c.args.address (grind arith) (omega arith)

pub returns-in-112-to-113-2 : goal.returns-in-112-to-113-2
unfolding class_of
returns-in-112-to-113-2 c = span Flags 0x74 4 tt c.args.address (omega arith) (omega arith)

pub returns-in-114-to-115 : goal.returns-in-114-to-115
unfolding class_of
returns-in-114-to-115 c = span FastFlags 0x72 2 tt c.args.address (omega arith) (omega arith)

pub returns-in-123-to-126 : goal.returns-in-123-to-126
unfolding class_of
returns-in-123-to-126 c = span Entry 0x7B 4 tt c.args.address (omega arith) (omega arith)

pub returns-in_default : goal.returns-in_default
unfolding class_of
returns-in_default c = span Upper 0x80 128 tt c.args.address (grind arith) (omega arith)
