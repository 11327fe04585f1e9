use Rattle.std.proofs.Common.{◌≡◌, sym, ap}
use Rattle.binfarce.specs.Elf.{elf32, elf64}
use Rattle.binfarce_image.specs.Image.{class_of}
use Rattle.binfarce_image.proofs.image.write.class.Goals as goal

pub returns-in-Elf32Little : goal.returns-in-Elf32Little
unfolding elf32
returns-in-Elf32Little c = let same : elf32 ≡ class_of c.args.layout = ap class_of (sym c.in-Elf32Little.is) in same

pub returns-in-Elf32Big : goal.returns-in-Elf32Big
unfolding elf32
returns-in-Elf32Big c = let same : elf32 ≡ class_of c.args.layout = ap class_of (sym c.in-Elf32Big.is) in same

pub returns-in-Elf64Little : goal.returns-in-Elf64Little
unfolding elf64
returns-in-Elf64Little c = let same : elf64 ≡ class_of c.args.layout = ap class_of (sym c.in-Elf64Little.is) in same

pub returns-in-Elf64Big : goal.returns-in-Elf64Big
unfolding elf64
returns-in-Elf64Big c = let same : elf64 ≡ class_of c.args.layout = ap class_of (sym c.in-Elf64Big.is) in same
