use Rattle.ssh_gateway.proofs.run.run_gateway.Given as goal

abbrev pub ghosts-turns_with : goal.ghosts-turns_with
ghosts-turns_with g a = record {
  name = a.auth.ghost_name;
}
