-- The kinds of messages, each by the number that its text begins with (OSDI 1999 sections 4.1 to 4.4).
use Rattle.std.specs.Prelude.{ℕ}

abbrev pub request_tag : ℕ
request_tag = 1

abbrev pub pre_prepare_tag : ℕ
pre_prepare_tag = 2

abbrev pub prepare_tag : ℕ
prepare_tag = 3

abbrev pub commit_tag : ℕ
commit_tag = 4

abbrev pub checkpoint_tag : ℕ
checkpoint_tag = 5

abbrev pub view_change_tag : ℕ
view_change_tag = 6

abbrev pub new_view_tag : ℕ
new_view_tag = 7

abbrev pub reply_tag : ℕ
reply_tag = 8
