-- What is printed where a file that the words name is not read, to the byte.
use Rattle.std.specs.Prelude.{ℕ, ◌++◌, List, codes}
use Rattle.taskaudit.specs.declared.work.Job.{Job}
use Rattle.taskaudit.specs.declared.work.Job.TheVariants.{Check, Order, Record, Upgrade, Watch}
use Rattle.taskaudit.specs.declared.work.OpenFault.{OpenFault}
use Rattle.taskaudit.specs.declared.work.OpenFault.TheVariants.{Missing, Denied, Folder, Other}
use Rattle.taskaudit.specs.declared.work.Packing.{Packing}
use Rattle.taskaudit.specs.declared.work.Packing.TheVariants.{Gzip, Zstandard, Xz}
use Rattle.taskaudit.specs.declared.work.FileFault.{FileFault}
use Rattle.taskaudit.specs.declared.work.FileFault.TheVariants.{Unopened, Compressed}

-- why a file is not opened
abbrev pub open_fault_name : OpenFault → List ℕ
open_fault_name Missing = codes "no such file"
open_fault_name Denied = codes "permission denied"
open_fault_name Folder = codes "is a folder"
open_fault_name Other = codes "cannot be opened"

-- how a file is compressed
abbrev pub packing_name : Packing → List ℕ
packing_name Gzip = codes "gzip"
packing_name Zstandard = codes "Zstandard"
packing_name Xz = codes "xz"

-- the program that prints such a file unpacked
abbrev pub unpacker : Packing → List ℕ
unpacker Gzip = codes "zcat"
unpacker Zstandard = codes "zstdcat"
unpacker Xz = codes "xzcat"

-- the word that asks for a job
abbrev pub job_name : Job → List ℕ
job_name (Check workers most) = codes "check"
job_name (Order records) = codes "order"
job_name Record = codes "record"
job_name (Upgrade to) = codes "upgrade"
job_name Watch = codes "watch"

-- the file of this name is not opened
abbrev pub unopened_line : List ℕ → OpenFault → List ℕ
unopened_line name why = codes "unopened: " ++ (name ++ (codes ": " ++ open_fault_name why))

-- the file of this name is compressed: a command that does the same job on what it unpacks to
abbrev pub compressed_line : List ℕ → Packing → Job → List ℕ
compressed_line name packing job =
    codes "compressed: " ++ (name
    ++ (codes " is " ++ (packing_name packing
    ++ (codes ": run " ++ (unpacker packing
    ++ (codes " " ++ (name
    ++ (codes " | taskaudit " ++ (job_name job ++ codes " -")))))))))

abbrev pub file_line : FileFault → List ℕ
file_line (Unopened name why) = unopened_line name.now why
file_line (Compressed name packing job) = compressed_line name.now packing job

-- what is printed of it, one line
abbrev pub file_fault_text_of : FileFault → List ℕ
file_fault_text_of fault = file_line fault ++ codes "\n"
