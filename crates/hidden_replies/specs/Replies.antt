-- When two replies of write calls are the same.
use Rattle.std.specs.Prelude.{ℕ, Bool, true, false, ◌==◌, ◌&&◌, List}
use Rattle.std.specs.Str.{bytes_eq}
use Rattle.base.specs.Refusal.{told_as}
use Rattle.kernel_rules.specs.declared.replies.Reply.{Reply}
use Rattle.kernel_rules.specs.declared.replies.Reply.TheVariants as reply

-- the other reply is of this kind, with the same id, category, places, bytes or refusal
abbrev pub is_category : ℕ → Reply → Bool
is_category c (reply.Category d) = c == d.0
is_category c r = false

abbrev pub is_object : ℕ → Reply → Bool
is_object o (reply.Object p) = o == p
is_object o r = false

abbrev pub is_entered : ℕ → ℕ → Reply → Bool
is_entered e c (reply.Entered f d) = e == f && c == d
is_entered e c r = false

abbrev pub is_bytes : List ℕ → Reply → Bool
is_bytes x (reply.Bytes y) = bytes_eq x y
is_bytes x r = false

abbrev pub is_refused : ℕ → Reply → Bool
is_refused n (reply.Refused f) = n == (told_as f).number
is_refused n r = false

abbrev pub is_done : Reply → Bool
is_done reply.Done = true
is_done r = false

-- the replies of two write calls are the same; another reply is that of a query
abbrev pub same_reply : Reply → Reply → Bool
same_reply reply.Done r = is_done r
same_reply (reply.Category c) r = is_category c.0 r
same_reply (reply.Object o) r = is_object o r
same_reply (reply.Entered e c) r = is_entered e c r
same_reply (reply.Bytes x) r = is_bytes x r
same_reply (reply.Refused f) r = is_refused (told_as f).number r
same_reply q r = false
