-- What is said of files that are not read or made.
use Rattle.std.specs.Prelude.{ℕ, List, [], ◌∷◌, codes, if◌then◌else◌}
use Rattle.std.specs.List.{concat}
use Rattle.std.specs.Str.{bytes_eq}
use Rattle.std.specs.declared.io.ErrorKind.{ErrorKind}
use Rattle.std.specs.declared.io.ErrorKind.TheVariants.{NotFound, IsADirectory, PermissionDenied}
use Rattle.ct_streams.specs.declared.file_fault.FileFault.{FileFault}
use Rattle.ct_streams.specs.declared.file_fault.FileFault.TheVariants.{Missing, Folder, Barred, Read, Write}

-- why a file is not opened, by the kind of the error
abbrev pub fault_of_kind : ErrorKind → FileFault
fault_of_kind NotFound = Missing
fault_of_kind IsADirectory = Folder
fault_of_kind PermissionDenied = Barred
fault_of_kind _ = Read

abbrev pub fault_text : FileFault → List ℕ
fault_text Missing = codes "no such file"
fault_text Folder = codes "is a folder"
fault_text Barred = codes "not readable"
fault_text Read = codes "read failed"
fault_text Write = codes "write failed"

-- the line of a file of this name; standard input has no name
abbrev pub named_text : List ℕ → FileFault → List ℕ
named_text name fault = if bytes_eq name (codes "-") then fault_text fault else concat (name ∷ codes ": " ∷ fault_text fault ∷ [])
