-- The handles, as the code keeps them.
use Rattle.ssh_sftp_core.specs.declared.handles.Opened as kept
use Rattle.ssh_sftp_core.specs.Files.{Opened}

-- a handle that is open
abbrev pub one_of : kept.Opened → Opened
one_of one = record { number = one.number; path = one.path.items; flags = one.flags }
