-- The box of a file server: its parts and a full slot own what it owns.
use mathlib.Core.List.{[]}
use mir.Syntax.{impl, tnil, dnil}
use denote.Signature.{Slot, plain}
use Rattle.std_alloc.proofs.BoxSteps.Form.{Bx}
use Rattle.std_heap.proofs.Global.TheLaws as global_laws
use Rattle.std_heap.specs.contracts.Global as global
use Rattle.std_heap.specs.contracts.GlobalAllocator.TheImpl.{dict, ghosts}
use Rattle.ssh_c.proofs.sftp.server.FileServer.TheLaws as files_laws
use Rattle.ssh_c.specs.contracts.sftp.server.FileServer as files
use Rattle.ssh_c.specs.contracts.parts.Parts as parts
use Rattle.ssh_c.specs.contracts.sftp.slot.FilesSlot as place

abbrev pub whole : Bx
whole = record {
  row = files.the_row;
  laws = files_laws.the_row_laws;
  al =
      record {
        row = global.the_row;
        laws = global_laws.the_row_laws;
        g = ghosts;
        d = dict;
        drops = impl [] tnil dnil;
      };
}

-- a parameter that is its parts, and one that is a slot
abbrev pub as_parts : Slot 0
as_parts = plain (λ _. parts.the_row files.the_row global.the_row ghosts)

abbrev pub as_slot : Slot 0
as_slot = plain (λ _. place.the_row)
