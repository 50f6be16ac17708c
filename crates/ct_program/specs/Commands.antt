-- How programs end that do nothing that their command line asks for.
use Rattle.std.specs.Prelude.{◌≡◌, ◌≢◌, ◌⊎◌, ℕ, Bool, true, false, Result, Ok, Err}
use Rattle.std.specs.IoError.{error_kind}
use Rattle.std.specs.declared.io.Error.{Error}
use Rattle.std.specs.declared.io.ErrorKind.TheVariants.{OutOfMemory}
use Rattle.ct_program.specs.declared.command_fault.CommandFault.{CommandFault}
use Rattle.ct_program.specs.declared.command_fault.CommandFault.TheVariants.{Arguments, NoFile, NoSubcommand, Write, Memory}
use Rattle.ct_streams.specs.declared.status.Status.TheVariants as status
use Rattle.ct_streams.specs.Statuses.{code}

abbrev pub command_status : CommandFault → ℕ
command_status Arguments = code status.Words
command_status NoFile = code status.Words
command_status NoSubcommand = code status.Words
command_status Write = code status.Stream
command_status Memory = code status.Memory

-- what a fault of reading the words is: want of memory, or words that are not UTF-8
abbrev pub IsOfError : Error → CommandFault → Type 0
IsOfError error fault = ((error_kind error ≡ OutOfMemory) × (fault ≡ Memory)) ⊎ ((error_kind error ≢ OutOfMemory) × (fault ≡ Arguments))

-- the status where the words are answered by a text: they are refused where it goes to standard error, and else it is the help or
-- the version, which was printed or not
abbrev pub answer_of : Bool → Bool → Result ℕ CommandFault
answer_of true printed = Ok (code status.Words)
answer_of false true = Ok (code status.Done)
answer_of false false = Err Write
