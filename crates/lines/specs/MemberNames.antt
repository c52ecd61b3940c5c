-- What each member of a line's object is called.
use Rattle.std.specs.Prelude.{List, [], ◌∷◌, ℕ, codes}
use Rattle.lines.specs.declared.members.Member.{Member}
use Rattle.lines.specs.declared.members.Member.TheVariants as variant

abbrev pub format : List ℕ
format = codes "format"

abbrev pub version : List ℕ
version = codes "version"

abbrev pub thread : List ℕ
thread = codes "thread"

abbrev pub seq : List ℕ
seq = codes "seq"

abbrev pub seen : List ℕ
seen = codes "seen"

abbrev pub cb : List ℕ
cb = codes "cb"

abbrev pub kind : List ℕ
kind = codes "kind"

abbrev pub requested : List ℕ
requested = codes "requested"

abbrev pub task : List ℕ
task = codes "task"

abbrev pub parallel : List ℕ
parallel = codes "parallel"

abbrev pub endpoint : List ℕ
endpoint = codes "endpoint"

abbrev pub actual : List ℕ
actual = codes "actual"

abbrev pub index : List ℕ
index = codes "index"

abbrev pub flags : List ℕ
flags = codes "flags"

abbrev pub deps : List ℕ
deps = codes "deps"

abbrev pub child : List ℕ
child = codes "child"

abbrev pub list : List ℕ
list = codes "list"

abbrev pub type : List ℕ
type = codes "type"

abbrev pub var : List ℕ
var = codes "var"

abbrev pub status : List ℕ
status = codes "status"

abbrev pub prior : List ℕ
prior = codes "prior"

abbrev pub next : List ℕ
next = codes "next"

abbrev pub prior_turn : List ℕ
prior_turn = codes "prior_turn"

abbrev pub next_turn : List ℕ
next_turn = codes "next_turn"

abbrev pub kept : List ℕ
kept = codes "kept"

abbrev pub root : List ℕ
root = codes "root"

abbrev pub path : List ℕ
path = codes "path"

abbrev pub after : List ℕ
after = codes "after"

abbrev pub member_name : Member → List ℕ
member_name variant.Actual = actual
member_name variant.After = after
member_name variant.Callback = cb
member_name variant.Child = child
member_name variant.Deps = deps
member_name variant.Endpoint = endpoint
member_name variant.Flags = flags
member_name variant.Format = format
member_name variant.Index = index
member_name variant.Kept = kept
member_name variant.Kind = kind
member_name variant.List = list
member_name variant.Next = next
member_name variant.NextTurn = next_turn
member_name variant.Parallel = parallel
member_name variant.Path = path
member_name variant.Prior = prior
member_name variant.PriorTurn = prior_turn
member_name variant.Requested = requested
member_name variant.Root = root
member_name variant.Seen = seen
member_name variant.Seq = seq
member_name variant.Status = status
member_name variant.Task = task
member_name variant.Thread = thread
member_name variant.Type = type
member_name variant.Var = var
member_name variant.Version = version

unfoldable pub all_members : List Member
all_members =
    variant.Actual ∷ variant.After ∷ variant.Callback ∷ variant.Child ∷ variant.Deps ∷ variant.Endpoint
    ∷ variant.Flags ∷ variant.Format ∷ variant.Index ∷ variant.Kept ∷ variant.Kind ∷ variant.List
    ∷ variant.Next ∷ variant.NextTurn ∷ variant.Parallel ∷ variant.Path ∷ variant.Prior
    ∷ variant.PriorTurn ∷ variant.Requested ∷ variant.Root ∷ variant.Seen ∷ variant.Seq ∷ variant.Status
    ∷ variant.Task ∷ variant.Thread ∷ variant.Type ∷ variant.Var ∷ variant.Version ∷ []

-- the members in the order of their names, numbered from 0
abbrev pub member_code : Member → ℕ
member_code variant.Actual = 0
member_code variant.After = 1
member_code variant.Callback = 2
member_code variant.Child = 3
member_code variant.Deps = 4
member_code variant.Endpoint = 5
member_code variant.Flags = 6
member_code variant.Format = 7
member_code variant.Index = 8
member_code variant.Kept = 9
member_code variant.Kind = 10
member_code variant.List = 11
member_code variant.Next = 12
member_code variant.NextTurn = 13
member_code variant.Parallel = 14
member_code variant.Path = 15
member_code variant.Prior = 16
member_code variant.PriorTurn = 17
member_code variant.Requested = 18
member_code variant.Root = 19
member_code variant.Seen = 20
member_code variant.Seq = 21
member_code variant.Status = 22
member_code variant.Task = 23
member_code variant.Thread = 24
member_code variant.Type = 25
member_code variant.Var = 26
member_code variant.Version = 27
